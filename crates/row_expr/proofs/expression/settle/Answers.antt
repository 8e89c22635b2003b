use Rattle.std.proofs.Common.{sym, ap, ◌∙◌, refl, arith}
use Rattle.row_expr.specs.Evaluation.{operation_value, rest_size}
use Rattle.row_expr.proofs.Evaluation.{whole_value-last, rest_sizes-last}
use Rattle.row_expr.proofs.expression.settle.Goals as goal

pub loop-operation-preserved-in_ok-value-in-ForRight : goal.loop-operation-preserved-in_ok-value-in-ForRight
loop-operation-preserved-in_ok-value-in-ForRight c =
    let sizes = rest_sizes-last c.loop-operation.waiting.items c.pop.new.self.items c.in-Some.operation c.in-Some.ensures.items in
    record {
      same = λ row. whole_value-last row c.loop-operation.waiting.items c.pop.new.self.items c.in-Some.operation _ _ c.in-Some.ensures.items (ap (λ o. operation_value row o c.loop-operation.value) c.in-ForRight.is ∙ sym c.in_ok-value-in-ForRight.ensures) ∙ c.loop-operation.invariant.same row;
      fewer = omega arith;
    }

pub loop-operation-preserved : goal.loop-operation-preserved
loop-operation-preserved c =
    let sizes = rest_sizes-last c.loop-operation.waiting.items c.pop.new.self.items c.in-Some.operation c.in-Some.ensures.items in
    record {
      same = λ row. whole_value-last row c.loop-operation.waiting.items c.pop.new.self.items c.in-Some.operation _ _ c.in-Some.ensures.items (ap (λ o. operation_value row o c.loop-operation.value) c.in-ForRight.is ∙ sym c.in_ok-value-in-ForRight.ensures) ∙ c.loop-operation.invariant.same row;
      fewer = omega arith;
    }

pub returns-in-ForLeft-clause-same : goal.returns-in-ForLeft-clause-same
returns-in-ForLeft-clause-same c row =
    let before = whole_value-last row c.loop-operation.waiting.items c.pop.new.self.items c.in-Some.operation c.loop-operation.value _ c.in-Some.ensures.items (ap (λ o. operation_value row o c.loop-operation.value) c.in-ForLeft.is) in
    let after = whole_value-last row c.push.new.self.items c.pop.new.self.items _ _ _ c.in_ok-push-in-ForLeft.ensures.items refl in
    sym after ∙ before ∙ c.loop-operation.invariant.same row

pub returns-in-ForLeft-clause-fewer : goal.returns-in-ForLeft-clause-fewer
returns-in-ForLeft-clause-fewer c =
    let before = rest_sizes-last c.loop-operation.waiting.items c.pop.new.self.items c.in-Some.operation c.in-Some.ensures.items in
    let after = rest_sizes-last c.push.new.self.items c.pop.new.self.items _ c.in_ok-push-in-ForLeft.ensures.items in
    omega (arith, ap rest_size c.in-ForLeft.is)
