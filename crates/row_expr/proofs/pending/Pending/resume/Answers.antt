use Rattle.std.proofs.Common.{ap, ◌∙◌, arith}
use Rattle.row_expr.specs.PendingPredicates.{predicate_size}
use Rattle.row_expr.proofs.PendingPredicates.{whole_truth-last, left_sizes-last}
use Rattle.row_expr.proofs.pending.Pending.resume.Goals as goal

pub loop-side-preserved : goal.loop-side-preserved
loop-side-preserved c =
    let last = left_sizes-last c.loop-side.self c.pop.new.self c.in-Some.side c.in-Some.ensures in
    record {
      same = λ row. whole_truth-last row c.loop-side.self c.pop.new.self c.in-Some.side _ _ c.in-Some.ensures (c.in_default-if_open.ensures.decided row) ∙ c.loop-side.invariant.same row;
      fewer = omega arith;
      smaller = omega arith;
    }

pub returns-in-Some-if_open-clause-open : goal.returns-in-Some-if_open-clause-open
returns-in-Some-if_open-clause-open c row = whole_truth-last row c.loop-side.self c.pop.new.self c.in-Some.side _ _ c.in-Some.ensures (c.in-Some-if_open.ensures.open row) ∙ c.loop-side.invariant.same row

pub returns-in-Some-if_open-clause-fewer : goal.returns-in-Some-if_open-clause-fewer
returns-in-Some-if_open-clause-fewer c =
    let last = left_sizes-last c.loop-side.self c.pop.new.self c.in-Some.side c.in-Some.ensures in
    (omega arith, omega (arith, ap predicate_size c.in-Some-if_open.ensures.same))
