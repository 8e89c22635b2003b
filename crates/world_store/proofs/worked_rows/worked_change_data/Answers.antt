use Rattle.std.proofs.Common.{refl}
use Rattle.repl_model.specs.Words.{units, change_rows, changes_between}
use Rattle.world_store.proofs.worked_rows.worked_change_data.Goals as goal

pub returns-clause-active : goal.returns-clause-active
unfolding units change_rows changes_between
returns-clause-active c = refl

pub returns-clause-started_later : goal.returns-clause-started_later
unfolding units change_rows changes_between
returns-clause-started_later c = refl

pub returns-clause-pruned : goal.returns-clause-pruned
unfolding units change_rows changes_between
returns-clause-pruned c = refl
