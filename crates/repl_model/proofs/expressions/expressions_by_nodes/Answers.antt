use Rattle.repl_model.specs.laws.Trees.{value_column, value_int, value_text, value_add, value_sub, value_mul, value_concat}
use Rattle.repl_model.proofs.expressions.expressions_by_nodes.Goals as goal

pub returns-clause-column : goal.returns-clause-column
returns-clause-column c = value_column

pub returns-clause-int : goal.returns-clause-int
returns-clause-int c = value_int

pub returns-clause-text : goal.returns-clause-text
returns-clause-text c = value_text

pub returns-clause-add : goal.returns-clause-add
returns-clause-add c = value_add

pub returns-clause-sub : goal.returns-clause-sub
returns-clause-sub c = value_sub

pub returns-clause-mul : goal.returns-clause-mul
returns-clause-mul c = value_mul

pub returns-clause-concat : goal.returns-clause-concat
returns-clause-concat c = value_concat
