use Rattle.std.proofs.Common.{sym, subst, ◌∙◌, arith}
use Rattle.row_expr.specs.Evaluation.{IsTopOf}
use Rattle.row_expr.proofs.Evaluation.{whole_value-last, rest_sizes-last}
use Rattle.row_expr.proofs.expression.eval.Goals as goal

pub loop-waiting-preserved-in-Joined : goal.loop-waiting-preserved-in-Joined
loop-waiting-preserved-in-Joined c =
    let top = subst (IsTopOf c.args.row.now c.loop-waiting.current.now) c.in-Joined.is c.in_ok-operator.ensures in
    sym (whole_value-last c.args.row.now c.push.new.self.items c.loop-waiting.waiting.items _ _ _ c.in_ok-push-in-Joined.ensures.items top.0) ∙ c.loop-waiting.invariant

pub loop-waiting-smaller-in-Joined : goal.loop-waiting-smaller-in-Joined
loop-waiting-smaller-in-Joined c =
    let top = subst (IsTopOf c.args.row.now c.loop-waiting.current.now) c.in-Joined.is c.in_ok-operator.ensures in
    let sizes = rest_sizes-last c.push.new.self.items c.loop-waiting.waiting.items _ c.in_ok-push-in-Joined.ensures.items in
    omega arith
