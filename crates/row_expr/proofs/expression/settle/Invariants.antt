use Rattle.std.proofs.Common.{◌≡◌, ◌≤◌, length}
use Rattle.repl_model.specs.Words.{Values}
use Rattle.row_expr.specs.Evaluation.{rest_sizes, whole_value}
use Rattle.row_expr.proofs.expression.settle.Given as goal

abbrev pub invariant-loop-operation : goal.invariant-loop-operation
invariant-loop-operation l = record {
  same : (row : Values) → whole_value row l.waiting.items l.value ≡ whole_value row l.fn.waiting.items l.fn.value;
  fewer : rest_sizes l.waiting.items ≤ rest_sizes l.fn.waiting.items;
}

abbrev pub decreases-loop-operation : goal.decreases-loop-operation
decreases-loop-operation l = length l.waiting.items
