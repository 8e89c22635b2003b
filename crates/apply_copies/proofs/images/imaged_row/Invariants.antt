use Rattle.std.specs.Prelude.{◌≡◌, map}
use Rattle.std.specs.List.{range_with_len}
use Rattle.stored_commits.specs.copies.ChangedCopies.{image_of}
use Rattle.apply_copies.proofs.images.imaged_row.Given as goal

abbrev pub invariant-loop-column : goal.invariant-loop-column
invariant-loop-column l = l.row ≡ map (λ column. image_of l.reg.after l.change.after column) (range_with_len 0 l.column)
