-- A predicate that is read up to the end.
use Rattle.std.proofs.Common.{[]}
use Rattle.repl_defs.specs.laws.ExpressionReader.{passed_on}
use Rattle.repl_defs.specs.laws.TextsRead.{no_predicate, predicate_unfinished, predicate_read}
use Rattle.repl_defs.proofs.reader.Reader.whole_predicate.Goals as goal

pub returns-in_err-predicate-clause-refused : goal.returns-in_err-predicate-clause-refused
returns-in_err-predicate-clause-refused c = λ is. no_predicate _ _ (c.in_err-predicate.ensures.refused (passed_on _ _ _ c.from_residual.ensures.1 is) [])

pub returns-then-not-is_empty-clause-refused : goal.returns-then-not-is_empty-clause-refused
returns-then-not-is_empty-clause-refused c = λ is. no_predicate _ _ (predicate_unfinished _ _ _ _ c.in_ok-predicate.ensures.ok c.if-not-is_empty.ensures)

pub returns-clause-ok : goal.returns-clause-ok
returns-clause-ok c = predicate_read _ _ _ _ c.in_ok-predicate.ensures.ok c.if-not-is_empty.ensures
