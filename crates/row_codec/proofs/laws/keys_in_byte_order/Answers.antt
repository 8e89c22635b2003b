use Rattle.repl_types.specs.Value.{images}
use Rattle.row_codec.specs.laws.Values.{one_key, order_key}
use Rattle.row_codec.proofs.laws.keys_in_byte_order.Goals as goal

pub returns-clause-order : goal.returns-clause-order
returns-clause-order c = order_key

pub returns-clause-of_rows : goal.returns-clause-of_rows
returns-clause-of_rows c places x y hx hy = order_key (images places x) (images places y) hx hy

pub returns-clause-one : goal.returns-clause-one
returns-clause-one c = one_key
