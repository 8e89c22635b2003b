use Rattle.std.proofs.Common.{refl}
use Rattle.repl_model.specs.Units.{units}
use Rattle.repl_model.proofs.worked_actions.worked_gaps.Goals as goal

pub returns-clause-block : goal.returns-clause-block
unfolding units
returns-clause-block c = refl

pub returns-clause-minutes : goal.returns-clause-minutes
unfolding units
returns-clause-minutes c = refl

pub returns-clause-rows : goal.returns-clause-rows
unfolding units
returns-clause-rows c = refl

pub returns-clause-forbidden : goal.returns-clause-forbidden
unfolding units
returns-clause-forbidden c = refl

pub returns-clause-units : goal.returns-clause-units
unfolding units
returns-clause-units c = refl

pub returns-clause-forbidden_units : goal.returns-clause-forbidden_units
unfolding units
returns-clause-forbidden_units c = refl
