use Rattle.std.proofs.Common.{refl}
use Rattle.repl_model.specs.Words.{units, time_at, change_rows, changes_between, user_copy}
use Rattle.world_store.proofs.worked_rows.worked_target_rows.Goals as goal

pub returns-clause-copy : goal.returns-clause-copy
unfolding user_copy
returns-clause-copy c = rw c.worked_user_copy.ensures.later refl

pub returns-clause-state : goal.returns-clause-state
unfolding time_at units
returns-clause-state c = refl

pub returns-clause-trail : goal.returns-clause-trail
unfolding units change_rows changes_between
returns-clause-trail c = rw c.worked_user_copy.ensures.source_refreshed refl
