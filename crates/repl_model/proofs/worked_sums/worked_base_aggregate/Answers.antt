use Rattle.std.proofs.Common.{refl}
use Rattle.repl_model.specs.Units.{units}
use Rattle.repl_model.specs.SourceAt.{time_at}
use Rattle.repl_model.specs.Summaries.{by_key, groups_of}
use Rattle.repl_model.specs.Aggregates.{base_aggregate}
use Rattle.repl_model.specs.WorkedOrders.{orders}
use Rattle.repl_model.specs.WorkedSums.{two_orders}
use Rattle.repl_model.specs.laws.Trees.{by_nodes}
use Rattle.repl_model.specs.laws.Evaluate.{source_entries}
use Rattle.repl_model.proofs.worked_sums.worked_base_aggregate.Goals as goal

pub returns-clause-rows : goal.returns-clause-rows
unfolding base_aggregate groups_of by_key time_at units
returns-clause-rows c = rw (source_entries orders two_orders 2, source_entries orders two_orders 5) (simp by_nodes refl)
