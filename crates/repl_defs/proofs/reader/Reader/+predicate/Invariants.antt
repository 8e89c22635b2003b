-- Each call of a method has fewer tokens left, or is of a smaller part of a predicate.
use Rattle.std.proofs.Common.{◌≡◌, ◌+◌, ◌*◌, false, length, codes}
use Rattle.repl_defs.specs.Grammar.{conjunction, disjunction}
use Rattle.repl_defs.specs.Reading.{word_follows}
use Rattle.repl_defs.specs.ReadingPredicates.{IsPredicateReadSoFar}
use Rattle.repl_defs.proofs.reader.Reader.+predicate.Given as goal

abbrev pub decreases-predicate : goal.decreases-predicate
decreases-predicate l = 3 * length l.self.now.rest.now + 2

abbrev pub decreases-conjunction : goal.decreases-conjunction
decreases-conjunction l = 3 * length l.self.now.rest.now + 1

abbrev pub decreases-atom : goal.decreases-atom
decreases-atom l = 3 * length l.self.now.rest.now

abbrev pub invariant-predicate-loop-alloc : goal.invariant-predicate-loop-alloc
invariant-predicate-loop-alloc l = record {
  columns : l.self.columns.now ≡ l.fn.self.columns.now;
  read : IsPredicateReadSoFar l.fn.self.columns.now disjunction l.fn.self.rest.now l.self.rest.now l.left;
  no_and : word_follows (codes "and") l.self.rest.now ≡ false;
}

abbrev pub decreases-predicate-loop-alloc : goal.decreases-predicate-loop-alloc
decreases-predicate-loop-alloc l = length l.self.rest.now

abbrev pub invariant-conjunction-loop-alloc : goal.invariant-conjunction-loop-alloc
invariant-conjunction-loop-alloc l = record {
  columns : l.self.columns.now ≡ l.fn.self.columns.now;
  read : IsPredicateReadSoFar l.fn.self.columns.now conjunction l.fn.self.rest.now l.self.rest.now l.left;
}

abbrev pub decreases-conjunction-loop-alloc : goal.decreases-conjunction-loop-alloc
decreases-conjunction-loop-alloc l = length l.self.rest.now
