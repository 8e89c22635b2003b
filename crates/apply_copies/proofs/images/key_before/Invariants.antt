use Rattle.std.specs.Prelude.{◌≡◌, map, take}
use Rattle.stored_commits.specs.copies.ChangedCopies.{value_before}
use Rattle.apply_copies.specs.ChangeRules.{source_of}
use Rattle.apply_copies.proofs.images.key_before.Given as goal

abbrev pub invariant-loop-column : goal.invariant-loop-column
invariant-loop-column l = l.key ≡ map (value_before (source_of l.def l.reg) l.change) (take l.column-index l.column-items)
