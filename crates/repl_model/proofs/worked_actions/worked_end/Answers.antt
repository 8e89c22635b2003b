use Rattle.std.proofs.Common.{refl}
use Rattle.repl_model.specs.Units.{units}
use Rattle.repl_model.proofs.worked_actions.worked_end.Goals as goal

pub returns-clause-none : goal.returns-clause-none
unfolding units
returns-clause-none c = refl

pub returns-clause-first : goal.returns-clause-first
unfolding units
returns-clause-first c = refl

pub returns-clause-report : goal.returns-clause-report
unfolding units
returns-clause-report c = refl

pub returns-clause-all : goal.returns-clause-all
unfolding units
returns-clause-all c = refl

pub returns-clause-gap : goal.returns-clause-gap
unfolding units
returns-clause-gap c = refl
