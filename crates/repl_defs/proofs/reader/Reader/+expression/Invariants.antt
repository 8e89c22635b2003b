-- Each call of a method has fewer tokens left, or is of a smaller part of an expression.
use Rattle.std.proofs.Common.{◌≡◌, ◌+◌, ◌*◌, false, length}
use Rattle.repl_defs.specs.Grammar.{term, whole}
use Rattle.repl_defs.specs.Reading.{times_follows}
use Rattle.repl_defs.specs.ReadingExpressions.{IsReadSoFar}
use Rattle.repl_defs.proofs.reader.Reader.+expression.Given as goal

abbrev pub decreases-expression : goal.decreases-expression
decreases-expression l = 3 * length l.self.now.rest.now + 2

abbrev pub decreases-term : goal.decreases-term
decreases-term l = 3 * length l.self.now.rest.now + 1

abbrev pub decreases-factor : goal.decreases-factor
decreases-factor l = 3 * length l.self.now.rest.now

abbrev pub invariant-expression-loop-operator : goal.invariant-expression-loop-operator
invariant-expression-loop-operator l = record {
  columns : l.self.columns.now ≡ l.fn.self.columns.now;
  read : IsReadSoFar l.fn.self.columns.now whole l.fn.self.rest.now l.self.rest.now l.left;
  times : times_follows l.self.rest.now ≡ false;
}

abbrev pub decreases-expression-loop-operator : goal.decreases-expression-loop-operator
decreases-expression-loop-operator l = length l.self.rest.now

abbrev pub invariant-term-loop-alloc : goal.invariant-term-loop-alloc
invariant-term-loop-alloc l = record {
  columns : l.self.columns.now ≡ l.fn.self.columns.now;
  read : IsReadSoFar l.fn.self.columns.now term l.fn.self.rest.now l.self.rest.now l.left;
}

abbrev pub decreases-term-loop-alloc : goal.decreases-term-loop-alloc
decreases-term-loop-alloc l = length l.self.rest.now
