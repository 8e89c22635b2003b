-- A law of numbers as keys: a proof, and nothing to believe.
use Rattle.std.proofs.Common.{◌^◌, nat_cmp}
use Rattle.row_codec.specs.Spelling.{b64, Is64}
use Rattle.row_codec.specs.laws.Orders.{order64, whole_order}
use Rattle.rows_in_order.specs.Numbers.{SpellsInOrder}

-- spelled numbers lie in the order of the numbers
pub numbers_in_order : SpellsInOrder b64 (2 ^ 64)
numbers_in_order a b la lb = whole_order Is64 b64 nat_cmp order64 a b la lb
