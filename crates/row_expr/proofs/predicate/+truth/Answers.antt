use Rattle.std.proofs.Common.{sym, ap, ◌∙◌, arith}
use Rattle.row_expr.specs.PendingPredicates.{whole_truth}
use Rattle.row_expr.proofs.PendingPredicates.{whole_truth-last, left_sizes-last}
use Rattle.row_expr.proofs.predicate.+truth.Goals as goal

pub descend-loop-truth-preserved : goal.descend-loop-truth-preserved
descend-loop-truth-preserved t c =
    let row = c.args.row.now in
    let sizes = left_sizes-last c.push.new.self c.loop-truth.pending c.in-Fork.left c.push.ensures in
    let joined = sym (whole_truth-last row c.push.new.self c.loop-truth.pending c.in-Fork.left _ _ c.push.ensures c.in-Fork.ensures.0) in
    record {
      room = grind arith;
      same = joined ∙ c.loop-truth.invariant.same;
      smaller = omega (arith, c.in-Fork.ensures.3);
      below = omega (arith, c.in-Fork.ensures.3);
    }

pub descend-returns-then-is_full-clause-same : goal.descend-returns-then-is_full-clause-same
descend-returns-then-is_full-clause-same t c =
    let row = c.args.row.now in
    let joined = sym (whole_truth-last row c.push.new.self c.loop-truth.pending c.in-Fork.left _ _ c.push.ensures c.in-Fork.ensures.0) in
    ap (whole_truth row c.push.new.self) c.test_forks.ensures ∙ joined ∙ c.loop-truth.invariant.same

pub descend-returns-then-is_full-clause-smaller : goal.descend-returns-then-is_full-clause-smaller
descend-returns-then-is_full-clause-smaller t c =
    let sizes = left_sizes-last c.push.new.self c.loop-truth.pending c.in-Fork.left c.push.ensures in
    omega (arith, c.in-Fork.ensures.3)
