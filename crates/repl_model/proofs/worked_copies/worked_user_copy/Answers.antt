use Rattle.std.proofs.Common.{refl}
use Rattle.repl_model.specs.Units.{units}
use Rattle.repl_model.specs.MemberCopies.{user_copy}
use Rattle.repl_model.specs.WorkedOrders.{orders}
use Rattle.repl_model.specs.WorkedCopies.{changed_log}
use Rattle.repl_model.specs.laws.Trees.{by_nodes}
use Rattle.repl_model.specs.laws.Evaluate.{source_entries}
use Rattle.repl_model.proofs.worked_copies.worked_user_copy.Goals as goal

pub returns-clause-source_refreshed : goal.returns-clause-source_refreshed
unfolding units
returns-clause-source_refreshed c = source_entries orders changed_log 2

pub returns-clause-source_later : goal.returns-clause-source_later
unfolding units
returns-clause-source_later c = source_entries orders changed_log 8

pub returns-clause-refreshed : goal.returns-clause-refreshed
unfolding user_copy units
returns-clause-refreshed c = rw (source_entries orders changed_log 2) refl

pub returns-clause-later : goal.returns-clause-later
unfolding user_copy units
returns-clause-later c = rw (source_entries orders changed_log 8) (simp by_nodes refl)

pub returns-clause-all : goal.returns-clause-all
unfolding user_copy units
returns-clause-all c = rw (source_entries orders changed_log 8) (simp by_nodes refl)
