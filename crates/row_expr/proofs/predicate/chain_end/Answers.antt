use Rattle.std.proofs.Common.{arith, ap}
use Rattle.row_expr.specs.PendingPredicates.{predicate_size}
use Rattle.row_expr.proofs.PendingPredicates.{predicate_size-and}
use Rattle.row_expr.proofs.predicate.chain_end.Goals as goal

pub loop-current-preserved-in-Some-true-default : goal.loop-current-preserved-in-Some-true-default
loop-current-preserved-in-Some-true-default c =
    let same = rw c.in-Some-true-default.field-0-0-test at c.in-Some-true-default.ensures.and in
    record {
      same = cc (same, c.predicates_by_nodes.ensures.and c.args.row.now c.in-And.left c.in-And.right);
      smaller = omega (arith, c.in-Some-true-default.ensures.smaller, ap predicate_size c.in-And.is, predicate_size-and c.in-And.left c.in-And.right, ap predicate_size c.get.ensures, ap predicate_size c.get-in-And.ensures);
    }
