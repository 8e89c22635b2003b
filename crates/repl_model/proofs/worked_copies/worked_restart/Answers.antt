use Rattle.std.proofs.Common.{refl}
use Rattle.repl_model.specs.Units.{units}
use Rattle.repl_model.specs.ChangeRows.{change_rows, changes_between}
use Rattle.repl_model.specs.MemberCopies.{user_copy}
use Rattle.repl_model.specs.World.{restart_after}
use Rattle.repl_model.specs.WorkedOrders.{orders}
use Rattle.repl_model.specs.WorkedCopies.{long_log}
use Rattle.repl_model.specs.laws.Trees.{by_nodes}
use Rattle.repl_model.specs.laws.Evaluate.{source_entries}
use Rattle.repl_model.proofs.worked_copies.worked_restart.Goals as goal

pub returns-clause-before : goal.returns-clause-before
unfolding restart_after
returns-clause-before c = refl

pub returns-clause-in_flight : goal.returns-clause-in_flight
unfolding restart_after
returns-clause-in_flight c = refl

pub returns-clause-ended : goal.returns-clause-ended
unfolding restart_after
returns-clause-ended c = refl

pub returns-clause-first : goal.returns-clause-first
unfolding units change_rows changes_between
returns-clause-first c = refl

pub returns-clause-next : goal.returns-clause-next
unfolding units change_rows changes_between
returns-clause-next c = refl

pub returns-clause-copy_before : goal.returns-clause-copy_before
unfolding user_copy units
returns-clause-copy_before c = rw (source_entries orders long_log 5) (simp by_nodes refl)

pub returns-clause-copy_after : goal.returns-clause-copy_after
unfolding user_copy units
returns-clause-copy_after c = rw (source_entries orders long_log 6) (simp by_nodes refl)
