use Rattle.std.proofs.Common.{refl}
use Rattle.repl_model.specs.Units.{units}
use Rattle.repl_model.proofs.worked_actions.worked_first_refresh.Goals as goal

pub returns-clause-first : goal.returns-clause-first
unfolding units
returns-clause-first c = refl

pub returns-clause-signal : goal.returns-clause-signal
unfolding units
returns-clause-signal c = refl

pub returns-clause-second : goal.returns-clause-second
unfolding units
returns-clause-second c = refl

pub returns-clause-refresh : goal.returns-clause-refresh
unfolding units
returns-clause-refresh c = refl

pub returns-clause-third : goal.returns-clause-third
unfolding units
returns-clause-third c = refl

pub returns-clause-report : goal.returns-clause-report
unfolding units
returns-clause-report c = refl

pub returns-clause-idle : goal.returns-clause-idle
unfolding units
returns-clause-idle c = (refl, refl)
