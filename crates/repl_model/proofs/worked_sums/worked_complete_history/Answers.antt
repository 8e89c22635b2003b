use Rattle.std.proofs.Common.{refl}
use Rattle.repl_model.specs.Units.{units}
use Rattle.repl_model.specs.SourceAt.{time_at}
use Rattle.repl_model.specs.ChangeRows.{change_rows, changes_between}
use Rattle.repl_model.specs.History.{history}
use Rattle.repl_model.specs.WorkedOrders.{orders}
use Rattle.repl_model.specs.WorkedSums.{early_order}
use Rattle.repl_model.specs.laws.Trees.{by_nodes}
use Rattle.repl_model.specs.laws.Evaluate.{source_entries}
use Rattle.repl_model.proofs.worked_sums.worked_complete_history.Goals as goal

pub returns : goal.returns
unfolding history time_at changes_between change_rows units
returns c = rw (source_entries orders early_order 4) (simp by_nodes refl)
