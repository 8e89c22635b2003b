-- Each step of the machine, from what the calls ensure.
use Rattle.std.proofs.Common.{◌∙◌}
use Rattle.repl_defs.specs.Grammar.{factor, term, whole}
use Rattle.repl_defs.specs.laws.ExpressionReader.{leaf_reads, leaf_fails, nested_read, nested_fails, unclosed_fails, times_read, times_fails, sign_read, sign_fails, fails_at, read_at, passed_on}
use Rattle.repl_defs.proofs.reader.Reader.+expression.Goals as goal

pub expression-returns-in_err-right-clause-refused : goal.expression-returns-in_err-right-clause-refused
expression-returns-in_err-right-clause-refused t c = λ is.
    let fails = c.in_err-right.ensures.refused (passed_on _ _ _ c.from_residual-in_err-right.ensures.1 is) in
    sign_fails _ _ _ _ _ _ c.loop-operator.invariant.read c.in-Some.ensures.sign (fails_at term _ _ _ (c.in-Some.ensures.same ∙ c.loop-operator.invariant.columns) fails)

pub expression-loop-operator-preserved : goal.expression-loop-operator-preserved
expression-loop-operator-preserved t c =
    let same = c.in-Some.ensures.same ∙ c.loop-operator.invariant.columns in
    let right = read_at term _ _ _ _ _ same c.in_ok-right.ensures.ok in
    record {
      columns = c.in_ok-right.ensures.same ∙ same;
      read = sign_read _ _ _ _ _ _ _ _ _ c.loop-operator.invariant.read c.in-Some.ensures.sign right c.in_ok-left-2.ensures;
      times = right.ends;
    }

pub factor-returns-then-not-open-clause-ok : goal.factor-returns-then-not-open-clause-ok
factor-returns-then-not-open-clause-ok t c =
    leaf_reads _ _ _ _ _ _ c.if-not-open.ensures.same c.if-not-open.ensures.opens.1 c.leaf.ensures.ok c.leaf.ensures.kind

pub factor-returns-then-not-open-clause-refused : goal.factor-returns-then-not-open-clause-refused
factor-returns-then-not-open-clause-refused t c = λ is.
    fails_at factor _ _ _ c.if-not-open.ensures.same (leaf_fails _ _ c.if-not-open.ensures.opens.0 (rw c.if-not-open.ensures.opens.1 at (c.leaf.ensures.refused is)))

pub factor-returns-in_err-inner-clause-refused : goal.factor-returns-in_err-inner-clause-refused
factor-returns-in_err-inner-clause-refused t c = λ is.
    nested_fails _ _ _ c.if-not-open.ensures.opens (fails_at whole _ _ _ c.if-not-open.ensures.same (c.in_err-inner.ensures.refused (passed_on _ _ _ c.from_residual.ensures.1 is)))

pub factor-returns-then-not-close-clause-refused : goal.factor-returns-then-not-close-clause-refused
factor-returns-then-not-close-clause-refused t c = λ is.
    unclosed_fails _ _ _ _ _ c.if-not-open.ensures.opens (read_at whole _ _ _ _ _ c.if-not-open.ensures.same c.in_ok-inner.ensures.ok) c.if-not-close.ensures.closes.0

pub factor-returns-clause-ok : goal.factor-returns-clause-ok
factor-returns-clause-ok t c =
    nested_read _ _ _ _ _ _ c.if-not-open.ensures.opens (read_at whole _ _ _ _ _ c.if-not-open.ensures.same c.in_ok-inner.ensures.ok) c.if-not-close.ensures.closes

pub term-returns-in_err-right-clause-refused : goal.term-returns-in_err-right-clause-refused
term-returns-in_err-right-clause-refused t c = λ is.
    let fails = c.in_err-right.ensures.refused (passed_on _ _ _ c.from_residual-in_err-right.ensures.1 is) in
    times_fails _ _ _ _ _ c.loop-alloc.invariant.read c.loop-alloc-test.ensures.times (fails_at factor _ _ _ (c.loop-alloc-test.ensures.same ∙ c.loop-alloc.invariant.columns) fails)

pub term-loop-alloc-preserved : goal.term-loop-alloc-preserved
term-loop-alloc-preserved t c =
    let same = c.loop-alloc-test.ensures.same ∙ c.loop-alloc.invariant.columns in
    record {
      columns = c.in_ok-right.ensures.same ∙ same;
      read = times_read _ _ _ _ _ _ _ _ c.loop-alloc.invariant.read c.loop-alloc-test.ensures.times (read_at factor _ _ _ _ _ same c.in_ok-right.ensures.ok) c.in_ok-left-2.ensures;
    }
