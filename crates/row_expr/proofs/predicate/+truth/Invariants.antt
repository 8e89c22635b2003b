use Rattle.std.proofs.Common.{◌≡◌, ◌≤◌, ◌+◌, ◌*◌, ◌<◌, length}
use Rattle.repl_model.specs.Words.{is_true_of}
use Rattle.row_expr.specs.declared.pending.TheConstants.{ROOM}
use Rattle.row_expr.specs.PendingPredicates.{predicate_size, left_sizes, whole_truth}
use Rattle.row_expr.proofs.predicate.+truth.Given as goal

abbrev pub decreases-descend : goal.decreases-descend
decreases-descend l = 2 * predicate_size l.predicate.now

abbrev pub decreases-test_forks : goal.decreases-test_forks
decreases-test_forks l = 2 * predicate_size l.predicate.now + 1

abbrev pub invariant-descend-loop-truth : goal.invariant-descend-loop-truth
invariant-descend-loop-truth l = record {
  room : length l.pending < ROOM;
  same : whole_truth l.row l.pending (is_true_of l.row l.current) ≡ whole_truth l.row l.fn.pending (is_true_of l.row l.predicate);
  smaller : left_sizes l.pending + predicate_size l.current ≤ left_sizes l.fn.pending + predicate_size l.predicate;
  below : predicate_size l.current ≤ predicate_size l.predicate;
}

abbrev pub decreases-descend-loop-truth : goal.decreases-descend-loop-truth
decreases-descend-loop-truth l = predicate_size l.current

abbrev pub invariant-test_forks-loop-left : goal.invariant-test_forks-loop-left
invariant-test_forks-loop-left l = record {
  room : length l.pending < ROOM;
  same : whole_truth l.row l.pending (is_true_of l.row l.current) ≡ is_true_of l.row l.predicate;
  smaller : left_sizes l.pending + predicate_size l.current ≤ predicate_size l.predicate;
}

abbrev pub decreases-test_forks-loop-left : goal.decreases-test_forks-loop-left
decreases-test_forks-loop-left l = left_sizes l.pending + predicate_size l.current
