use Rattle.std.proofs.Common.{refl}
use Rattle.repl_model.specs.Units.{units}
use Rattle.repl_model.proofs.worked_actions.worked_stop.Goals as goal

pub returns-clause-first : goal.returns-clause-first
unfolding units
returns-clause-first c = refl

pub returns-clause-signal : goal.returns-clause-signal
unfolding units
returns-clause-signal c = refl

pub returns-clause-second : goal.returns-clause-second
unfolding units
returns-clause-second c = refl

pub returns-clause-forbidden : goal.returns-clause-forbidden
unfolding units
returns-clause-forbidden c = refl
