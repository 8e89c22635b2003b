use Rattle.std.proofs.Common.{◌≡◌, ◌≤◌, length}
use Rattle.repl_model.specs.Words.{Values}
use Rattle.row_expr.specs.PendingPredicates.{left_sizes, whole_truth}
use Rattle.row_expr.proofs.pending.Pending.resume.Given as goal

abbrev pub invariant-loop-side : goal.invariant-loop-side
invariant-loop-side l = record {
  same : (row : Values) → whole_truth row l.self l.truth ≡ whole_truth row l.fn.self l.truth;
  fewer : length l.self ≤ length l.fn.self;
  smaller : left_sizes l.self ≤ left_sizes l.fn.self;
}

abbrev pub decreases-loop-side : goal.decreases-loop-side
decreases-loop-side l = length l.self
