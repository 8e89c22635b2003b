use Rattle.std.proofs.Common.{◌≡◌, take}
use Rattle.repl_model.specs.Words.{images}
use Rattle.row_changes.proofs.changes.images.Given as goal

abbrev pub invariant-loop-place : goal.invariant-loop-place
invariant-loop-place l = l.found ≡ images (take l.place-index l.places) l.row
