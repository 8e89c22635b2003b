use Rattle.std.proofs.Common.{◌≡◌, ◌++◌, length, take}
use Rattle.std.specs.List.{flat_map, AllByRecursion}
use Rattle.row_codec.specs.Spelling.{b16}
use Rattle.row_codec.proofs.list.ListPart.put_part.Given as goal

abbrev pub invariant-loop-item : goal.invariant-loop-item
invariant-loop-item g l = (l.out.items ≡ l.fn.out.items ++ b16 (length l.item-items) ++ flat_map g.T.Part.spelling (take l.item-index l.item-items)) × AllByRecursion g.T.Part.fits (take l.item-index l.item-items)
