use Rattle.std.proofs.Common.{◌≡◌, ◌+◌}
use Rattle.repl_model.specs.Words.{value_of}
use Rattle.row_expr.specs.Evaluation.{expr_size, rest_sizes, whole_value}
use Rattle.row_expr.proofs.expression.eval.Given as goal

abbrev pub invariant-loop-waiting : goal.invariant-loop-waiting
invariant-loop-waiting l = whole_value l.row l.waiting.items (value_of l.row l.current) ≡ value_of l.row l.expr

abbrev pub decreases-loop-waiting : goal.decreases-loop-waiting
decreases-loop-waiting l = rest_sizes l.waiting.items + expr_size l.current
