use Rattle.std.proofs.Common.{refl}
use Rattle.repl_model.specs.Units.{units}
use Rattle.repl_model.proofs.worked_actions.worked_blocks.Goals as goal

pub returns-clause-first : goal.returns-clause-first
unfolding units
returns-clause-first c = refl

pub returns-clause-then : goal.returns-clause-then
unfolding units
returns-clause-then c = refl

pub returns-clause-second : goal.returns-clause-second
unfolding units
returns-clause-second c = refl

pub returns-clause-third : goal.returns-clause-third
unfolding units
returns-clause-third c = refl

pub returns-clause-report : goal.returns-clause-report
unfolding units
returns-clause-report c = refl
