-- What the right operand makes of the comparison.
use Rattle.std.proofs.Common.{sym, ap, ◌∙◌}
use Rattle.repl_defs.specs.ReadingPredicates.{comparable}
use Rattle.repl_defs.specs.laws.PredicateReader.{right_completes}
use Rattle.repl_defs.specs.laws.PredicateSteps.{right_fails, right_unfit}
use Rattle.repl_defs.specs.laws.ExpressionReader.{passed_on}
use Rattle.repl_defs.proofs.reader.Reader.compared.Goals as goal

pub returns-in_err-right-clause-refused : goal.returns-in_err-right-clause-refused
returns-in_err-right-clause-refused c = λ is around.
    right_fails _ _ _ _ around (c.in_err-right.ensures.refused (passed_on _ _ _ c.from_residual.ensures.1 is))

pub returns-then-not-comparable-clause-refused : goal.returns-then-not-comparable-clause-refused
returns-then-not-comparable-clause-refused c = λ is around.
    right_unfit _ _ _ _ _ _ around c.in_ok-right.ensures.ok (ap (λ cs. comparable cs c.args.left c.in_ok-right.right) (sym c.in_ok-right.ensures.same) ∙ sym c.if-not-comparable.ensures)

pub returns-clause-ok : goal.returns-clause-ok
returns-clause-ok c =
    right_completes _ _ _ _ _ _ c.in_ok-right.ensures.ok (ap (λ cs. comparable cs c.args.left c.in_ok-right.right) (sym c.in_ok-right.ensures.same) ∙ sym c.if-not-comparable.ensures)
