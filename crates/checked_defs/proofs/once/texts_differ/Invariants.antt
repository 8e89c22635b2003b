use Rattle.std.proofs.Common.{◌≡◌, length}
use Rattle.checked_defs.specs.Rules.{texts_differ}
use Rattle.checked_defs.proofs.once.texts_differ.Given as goal

abbrev pub invariant-texts : goal.invariant-texts
invariant-texts l = texts_differ l.rest ≡ texts_differ l.texts

abbrev pub decreases-texts : goal.decreases-texts
decreases-texts l = length l.rest
