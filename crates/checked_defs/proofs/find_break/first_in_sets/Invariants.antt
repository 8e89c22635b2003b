use Rattle.std.proofs.Common.{◌≡◌, ◌+◌, drop}
use Rattle.checked_defs.specs.Broken.{first_in_sets}
use Rattle.checked_defs.proofs.find_break.first_in_sets.Given as goal

abbrev pub invariant-sets : goal.invariant-sets
invariant-sets l =
    first_in_sets l.raw l.context l.rule (l.place + 1) (drop l.place l.set-items) ≡ first_in_sets l.raw l.context l.rule 1 l.set-items
