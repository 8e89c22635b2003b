use Rattle.std.proofs.Common.{refl}
use Rattle.repl_model.specs.laws.Trees.{by_nodes}
use Rattle.repl_model.proofs.expressions.worked_predicates.Goals as goal

pub returns-clause-null_equal : goal.returns-clause-null_equal
returns-clause-null_equal c = simp by_nodes refl

pub returns-clause-null_unequal : goal.returns-clause-null_unequal
returns-clause-null_unequal c = simp by_nodes refl

pub returns-clause-null_at_most : goal.returns-clause-null_at_most
returns-clause-null_at_most c = simp by_nodes refl

pub returns-clause-equal_null : goal.returns-clause-equal_null
returns-clause-equal_null c = simp by_nodes refl

pub returns-clause-unequal_null : goal.returns-clause-unequal_null
returns-clause-unequal_null c = simp by_nodes refl

pub returns-clause-at_most_null : goal.returns-clause-at_most_null
returns-clause-at_most_null c = simp by_nodes refl

pub returns-clause-at_least_null : goal.returns-clause-at_least_null
returns-clause-at_least_null c = simp by_nodes refl

pub returns-clause-null_itself : goal.returns-clause-null_itself
returns-clause-null_itself c = simp by_nodes refl

pub returns-clause-is_null : goal.returns-clause-is_null
returns-clause-is_null c = simp by_nodes refl

pub returns-clause-less : goal.returns-clause-less
returns-clause-less c = simp by_nodes refl

pub returns-clause-at_least : goal.returns-clause-at_least
returns-clause-at_least c = simp by_nodes refl

pub returns-clause-both : goal.returns-clause-both
returns-clause-both c = simp by_nodes refl

pub returns-clause-not_both : goal.returns-clause-not_both
returns-clause-not_both c = simp by_nodes refl

pub returns-clause-either : goal.returns-clause-either
returns-clause-either c = simp by_nodes refl

pub returns-clause-neither : goal.returns-clause-neither
returns-clause-neither c = simp by_nodes refl
