use Rattle.std.proofs.Common.{◌≡◌, ◌++◌, length}
use Rattle.std.specs.List.{flat_map, AllByRecursion}
use Rattle.row_codec.specs.Spelling.{b16}
use Rattle.row_codec.proofs.list.ListPart.take_part.Given as goal

abbrev pub invariant-loop : goal.invariant-loop
invariant-loop g l = (l.bytes ≡ b16 l.count ++ (flat_map g.T.Part.spelling l.items ++ l.left)) × AllByRecursion g.T.Part.fits l.items × (length l.items ≡ l.counter)
