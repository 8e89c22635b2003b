use Rattle.std.proofs.Common.{◌≡◌, ◌≤◌}
use Rattle.repl_model.specs.Words.{is_true_of}
use Rattle.row_expr.specs.PendingPredicates.{predicate_size}
use Rattle.row_expr.proofs.predicate.chain_end.Given as goal

abbrev pub invariant-loop-current : goal.invariant-loop-current
invariant-loop-current l = record {
  same : is_true_of l.row l.current ≡ is_true_of l.row l.predicate;
  smaller : predicate_size l.current ≤ predicate_size l.predicate;
}

abbrev pub decreases-loop-current : goal.decreases-loop-current
decreases-loop-current l = predicate_size l.current
