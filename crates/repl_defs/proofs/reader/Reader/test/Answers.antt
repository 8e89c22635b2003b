-- What follows the operand that an atom begins with.
use Rattle.std.proofs.Common.{sym, ap, ◌∙◌}
use Rattle.repl_defs.specs.ReadingPredicates.{comparison_at}
use Rattle.repl_defs.specs.laws.PredicateReader.{left_completes, left_never, null_completes, null_never, value_never}
use Rattle.repl_defs.specs.laws.PredicateSteps.{left_fails}
use Rattle.repl_defs.specs.laws.ExpressionReader.{passed_on}
use Rattle.repl_defs.proofs.reader.Reader.test.Goals as goal
use Rattle.repl_defs.proofs.reader.Reader.test.Goals.{in-Column, in-Value}

pub returns-in_err-left-clause-refused : goal.returns-in_err-left-clause-refused
returns-in_err-left-clause-refused c = λ is o around.
    left_fails _ _ around o (c.in_err-left.ensures.refused (passed_on _ _ _ c.from_residual.ensures.1 is))

pub returns-in-Some-clause-ok : goal.returns-in-Some-clause-ok
returns-in-Some-clause-ok c =
    left_completes _ _ _ _ _ _ _ _ _ (c.in-Some.ensures.same ∙ c.in_ok-left.ensures.same) c.in_ok-left.ensures.ok c.in-Some.ensures.comparison c.compared.ensures.ok

pub returns-in-Some-clause-refused : goal.returns-in-Some-clause-refused
returns-in-Some-clause-refused c = λ is o.
    left_never _ _ _ _ _ _ _ (c.in-Some.ensures.same ∙ c.in_ok-left.ensures.same) c.in_ok-left.ensures.ok c.in-Some.ensures.comparison (c.compared.ensures.refused is)

pub returns-clause-ok : goal.returns-clause-ok
returns-clause-ok c = elim c.match-left.branch [
  | in-Column w ↦
      rw (w.result-is, w.self-is) (null_completes _ _ _ _ _ _ _ _ (c.in_default.ensures.same ∙ c.in_ok-left.ensures.same) (rw w.in-Column.is at c.in_ok-left.ensures.ok) c.in_default.ensures.none w.null_test.ensures.ok)
  | in-Value w ↦ rw w.result-is tt
]

pub returns-clause-refused : goal.returns-clause-refused
returns-clause-refused c = elim c.match-left.branch [
  | in-Column w ↦ λ is o.
      null_never _ _ _ _ _ _ (c.in_default.ensures.same ∙ c.in_ok-left.ensures.same) (rw w.in-Column.is at c.in_ok-left.ensures.ok) c.in_default.ensures.none (w.null_test.ensures.refused (sym w.result-is ∙ is) (ap comparison_at c.in_default.ensures.none ∙ sym c.in_default.ensures.comparison))
  | in-Value w ↦ λ is o. value_never _ _ _ _ (rw w.in-Value.is at c.in_ok-left.ensures.ok) (sym c.in_default.ensures.comparison)
]
