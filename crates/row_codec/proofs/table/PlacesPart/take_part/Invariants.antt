use Rattle.std.proofs.Common.{◌≡◌, take}
use Rattle.row_codec.proofs.table.PlacesPart.take_part.Given as goal

abbrev pub invariant-loop-place : goal.invariant-loop-place
invariant-loop-place l = l.list ≡ take l.place-index l.place-items
