use Rattle.std.proofs.Common.{refl}
use Rattle.repl_model.specs.Words.{units, restart_after}
use Rattle.world_store.proofs.worked_rows.worked_capture_rows.Goals as goal

pub returns-clause-uow : goal.returns-clause-uow
unfolding units
returns-clause-uow c = refl

pub returns-clause-capture : goal.returns-clause-capture
unfolding restart_after
returns-clause-capture c = refl
