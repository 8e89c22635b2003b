use Rattle.std.proofs.Common.{refl}
use Rattle.repl_model.specs.Units.{units}
use Rattle.repl_model.specs.SourceAt.{time_at}
use Rattle.repl_model.specs.ChangeRows.{change_rows, changes_between}
use Rattle.repl_model.specs.Summaries.{by_key}
use Rattle.repl_model.specs.History.{history, condensed}
use Rattle.repl_model.specs.WorkedOrders.{orders}
use Rattle.repl_model.specs.WorkedSums.{withdrawn_log, renewed_log}
use Rattle.repl_model.specs.laws.Trees.{by_nodes}
use Rattle.repl_model.specs.laws.Evaluate.{source_entries}
use Rattle.repl_model.proofs.worked_sums.worked_history.Goals as goal

pub returns-clause-changes : goal.returns-clause-changes
unfolding history time_at changes_between change_rows units
returns-clause-changes c = simp by_nodes refl

pub returns-clause-condensed : goal.returns-clause-condensed
unfolding history condensed by_key time_at changes_between change_rows units
returns-clause-condensed c = rw (source_entries orders renewed_log 2) (simp by_nodes refl)

pub returns-clause-deleted : goal.returns-clause-deleted
unfolding history condensed by_key time_at changes_between change_rows units
returns-clause-deleted c = rw (source_entries orders withdrawn_log 2) (simp by_nodes refl)

pub returns-clause-no_changes : goal.returns-clause-no_changes
unfolding history
returns-clause-no_changes c = refl

pub returns-clause-no_entries : goal.returns-clause-no_entries
unfolding history condensed by_key time_at changes_between change_rows units
returns-clause-no_entries c = rw (source_entries orders renewed_log 0) refl

pub returns-clause-gap : goal.returns-clause-gap
unfolding history time_at changes_between change_rows units
returns-clause-gap c = simp by_nodes refl
