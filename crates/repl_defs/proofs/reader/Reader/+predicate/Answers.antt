-- Each step of the machine, from what the calls ensure.
use Rattle.std.proofs.Common.{◌∙◌}
use Rattle.repl_defs.specs.Grammar.{atom, conjunction, disjunction}
use Rattle.repl_defs.specs.laws.PredicateReader.{atom_read, atom_never, nested_read, nested_fails, unclosed_fails, and_read, and_fails, or_read, or_fails, predicate_fails_at, predicate_read_at}
use Rattle.repl_defs.specs.laws.ExpressionReader.{passed_on}
use Rattle.repl_defs.proofs.reader.Reader.+predicate.Goals as goal

pub atom-returns-then-not-open-clause-ok : goal.atom-returns-then-not-open-clause-ok
atom-returns-then-not-open-clause-ok t c = atom_read _ _ _ _ _ _ c.if-not-open.ensures.same c.if-not-open.ensures.opens.1 c.test.ensures.ok

pub atom-returns-then-not-open-clause-refused : goal.atom-returns-then-not-open-clause-refused
atom-returns-then-not-open-clause-refused t c = λ is.
    atom_never _ _ _ _ c.if-not-open.ensures.same c.if-not-open.ensures.opens (c.test.ensures.refused is)

pub atom-returns-in_err-inner-clause-refused : goal.atom-returns-in_err-inner-clause-refused
atom-returns-in_err-inner-clause-refused t c = λ is.
    nested_fails _ _ _ c.if-not-open.ensures.opens (predicate_fails_at disjunction _ _ _ c.if-not-open.ensures.same (c.in_err-inner.ensures.refused (passed_on _ _ _ c.from_residual.ensures.1 is)))

pub atom-returns-then-not-close-clause-refused : goal.atom-returns-then-not-close-clause-refused
atom-returns-then-not-close-clause-refused t c = λ is.
    unclosed_fails _ _ _ _ _ c.if-not-open.ensures.opens (predicate_read_at disjunction _ _ _ _ _ c.if-not-open.ensures.same c.in_ok-inner.ensures.ok) c.if-not-close.ensures.closes.0

pub atom-returns-clause-ok : goal.atom-returns-clause-ok
atom-returns-clause-ok t c =
    nested_read _ _ _ _ _ _ c.if-not-open.ensures.opens (predicate_read_at disjunction _ _ _ _ _ c.if-not-open.ensures.same c.in_ok-inner.ensures.ok) c.if-not-close.ensures.closes

pub conjunction-returns-in_err-right-clause-refused : goal.conjunction-returns-in_err-right-clause-refused
conjunction-returns-in_err-right-clause-refused t c = λ is.
    let fails = c.in_err-right.ensures.refused (passed_on _ _ _ c.from_residual-in_err-right.ensures.1 is) in
    and_fails _ _ _ _ _ c.loop-alloc.invariant.read c.loop-alloc-test.ensures.word (predicate_fails_at atom _ _ _ (c.loop-alloc-test.ensures.same ∙ c.loop-alloc.invariant.columns) fails)

pub conjunction-loop-alloc-preserved : goal.conjunction-loop-alloc-preserved
conjunction-loop-alloc-preserved t c =
    let same = c.loop-alloc-test.ensures.same ∙ c.loop-alloc.invariant.columns in
    record {
      columns = c.in_ok-right.ensures.same ∙ same;
      read = and_read _ _ _ _ _ _ _ _ c.loop-alloc.invariant.read c.loop-alloc-test.ensures.word (predicate_read_at atom _ _ _ _ _ same c.in_ok-right.ensures.ok) c.in_ok-left-2.ensures;
    }

pub predicate-returns-in_err-right-clause-refused : goal.predicate-returns-in_err-right-clause-refused
predicate-returns-in_err-right-clause-refused t c = λ is.
    let fails = c.in_err-right.ensures.refused (passed_on _ _ _ c.from_residual-in_err-right.ensures.1 is) in
    or_fails _ _ _ _ _ c.loop-alloc.invariant.read c.loop-alloc-test.ensures.word (predicate_fails_at conjunction _ _ _ (c.loop-alloc-test.ensures.same ∙ c.loop-alloc.invariant.columns) fails)

pub predicate-loop-alloc-preserved : goal.predicate-loop-alloc-preserved
predicate-loop-alloc-preserved t c =
    let same = c.loop-alloc-test.ensures.same ∙ c.loop-alloc.invariant.columns in
    let right = predicate_read_at conjunction _ _ _ _ _ same c.in_ok-right.ensures.ok in
    record {
      columns = c.in_ok-right.ensures.same ∙ same;
      read = or_read _ _ _ _ _ _ _ _ c.loop-alloc.invariant.read c.loop-alloc-test.ensures.word right c.in_ok-left-2.ensures;
      no_and = right.ends;
    }
