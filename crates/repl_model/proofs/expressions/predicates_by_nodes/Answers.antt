use Rattle.repl_model.specs.laws.Trees.{truth_compare, truth_null, truth_not_null, truth_and, truth_or}
use Rattle.repl_model.proofs.expressions.predicates_by_nodes.Goals as goal

pub returns-clause-compare : goal.returns-clause-compare
returns-clause-compare c = truth_compare

pub returns-clause-null : goal.returns-clause-null
returns-clause-null c = truth_null

pub returns-clause-not_null : goal.returns-clause-not_null
returns-clause-not_null c = truth_not_null

pub returns-clause-and : goal.returns-clause-and
returns-clause-and c = truth_and

pub returns-clause-or : goal.returns-clause-or
returns-clause-or c = truth_or
