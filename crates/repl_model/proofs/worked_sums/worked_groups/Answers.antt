use Rattle.std.proofs.Common.{refl}
use Rattle.repl_model.specs.Summaries.{by_key, groups_of}
use Rattle.repl_model.specs.laws.Trees.{by_nodes}
use Rattle.repl_model.proofs.worked_sums.worked_groups.Goals as goal

pub returns-clause-no_extremes : goal.returns-clause-no_extremes
unfolding groups_of by_key
returns-clause-no_extremes c = refl

pub returns-clause-extremes : goal.returns-clause-extremes
unfolding groups_of by_key
returns-clause-extremes c = refl

pub returns-clause-counts : goal.returns-clause-counts
unfolding groups_of by_key
returns-clause-counts c = refl

pub returns-clause-groups : goal.returns-clause-groups
unfolding groups_of by_key
returns-clause-groups c = simp by_nodes refl

pub returns-clause-one_group : goal.returns-clause-one_group
unfolding groups_of by_key
returns-clause-one_group c = refl

pub returns-clause-no_groups : goal.returns-clause-no_groups
unfolding groups_of by_key
returns-clause-no_groups c = refl

pub returns-clause-no_group : goal.returns-clause-no_group
unfolding groups_of by_key
returns-clause-no_group c = refl

pub returns-clause-exact : goal.returns-clause-exact
unfolding groups_of by_key
returns-clause-exact c = refl
