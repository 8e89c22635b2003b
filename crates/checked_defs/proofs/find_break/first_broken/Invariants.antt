use Rattle.std.proofs.Common.{◌≡◌, drop}
use Rattle.checked_defs.specs.Broken.{first_broken}
use Rattle.checked_defs.proofs.find_break.first_broken.Given as goal

abbrev pub invariant-rules : goal.invariant-rules
invariant-rules l =
    first_broken l.raw l.context (drop l.rule-index l.rules) ≡ first_broken l.raw l.context l.rules
