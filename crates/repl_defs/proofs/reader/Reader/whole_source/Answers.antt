-- A function of rows, or an expression that is read up to the end and has a kind.
use Rattle.std.proofs.Common.{[]}
use Rattle.repl_defs.specs.laws.ExpressionReader.{passed_on}
use Rattle.repl_defs.specs.laws.TextsRead.{summary_read, no_source, expression_unfinished, plain_read, kind_refused}
use Rattle.repl_defs.proofs.reader.Reader.whole_source.Goals as goal
use Rattle.repl_defs.proofs.reader.Reader.whole_source.Goals.{then-not-is_empty-via-then-not-is_empty, then-not-is_empty-via-else-not-is_empty+then-is_none}

pub returns-in-Some-clause-ok : goal.returns-in-Some-clause-ok
returns-in-Some-clause-ok c = summary_read _ _ _ c.in-Some.ensures

pub returns-in_err-expr-clause-refused : goal.returns-in_err-expr-clause-refused
returns-in_err-expr-clause-refused c = λ is.
    no_source _ _ c.in_default.ensures (λ e found fits. let none = c.in_err-expr.ensures.refused (passed_on _ _ _ c.from_residual.ensures.1 is) [] in cc)

pub returns-then-not-is_empty-clause-refused : goal.returns-then-not-is_empty-clause-refused
returns-then-not-is_empty-clause-refused c = λ is. no_source _ _ c.in_default.ensures (elim c.then-not-is_empty.branch [
  | then-not-is_empty-via-then-not-is_empty w ↦ λ e found fits. let none = expression_unfinished _ _ _ _ c.in_ok-expr.ensures.ok w.if-not-is_empty.ensures in cc
  | then-not-is_empty-via-else-not-is_empty+then-is_none w ↦ kind_refused _ _ _ _ c.in_ok-expr.ensures.ok w.if-not-is_empty.ensures w.if-is_none.ensures
])

pub returns-clause-ok : goal.returns-clause-ok
returns-clause-ok c = plain_read _ _ _ _ c.in_ok-expr.ensures.ok c.if-not-is_empty.ensures c.if-is_none.ensures
