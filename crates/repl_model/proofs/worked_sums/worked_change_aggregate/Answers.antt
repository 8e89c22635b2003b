use Rattle.std.proofs.Common.{refl}
use Rattle.repl_model.specs.Units.{units}
use Rattle.repl_model.specs.SourceAt.{time_at}
use Rattle.repl_model.specs.ChangeRows.{change_rows, changes_between}
use Rattle.repl_model.specs.Summaries.{by_key, groups_of}
use Rattle.repl_model.specs.Aggregates.{change_aggregate}
use Rattle.repl_model.specs.laws.Trees.{by_nodes}
use Rattle.repl_model.proofs.worked_sums.worked_change_aggregate.Goals as goal

pub returns-clause-rows : goal.returns-clause-rows
unfolding change_aggregate groups_of by_key time_at changes_between change_rows units
returns-clause-rows c = simp by_nodes refl
