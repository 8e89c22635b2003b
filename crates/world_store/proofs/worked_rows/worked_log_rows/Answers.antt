use Rattle.std.proofs.Common.{refl}
use Rattle.repl_model.specs.Words.{units, by_key}
use Rattle.world_store.proofs.worked_rows.worked_log_rows.Goals as goal

pub returns-clause-head : goal.returns-clause-head
unfolding units
returns-clause-head c = refl

pub returns-clause-source : goal.returns-clause-source
unfolding units
returns-clause-source c = rw c.worked_user_copy.ensures.source_later refl

pub returns-clause-in_flight : goal.returns-clause-in_flight
unfolding by_key
returns-clause-in_flight c = refl

pub returns-clause-last_in_flight : goal.returns-clause-last_in_flight
unfolding by_key
returns-clause-last_in_flight c = refl

pub returns-clause-first_in_flight : goal.returns-clause-first_in_flight
unfolding by_key
returns-clause-first_in_flight c = refl

pub returns-clause-by_transactions : goal.returns-clause-by_transactions
unfolding by_key
returns-clause-by_transactions c = refl

pub returns-clause-aborted : goal.returns-clause-aborted
unfolding by_key
returns-clause-aborted c = refl
