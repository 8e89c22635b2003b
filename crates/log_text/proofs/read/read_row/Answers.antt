use Rattle.std.proofs.Common.{inl, inr, sym, ◌∙◌, arith}
use Rattle.std.proofs.lemmas.Bool.{eqb-true}
use Rattle.std.proofs.lemmas.Bool.Decides.{nat_tests}
use Rattle.std.specs.List.{before_first}
use Rattle.log_text.specs.Words.{words}
use Rattle.log_text.specs.Records.{is_arrow}
use Rattle.log_text.proofs.Values.{row_taken, row_refused}
use Rattle.log_text.proofs.read.read_row.Goals as goal
use Rattle.log_text.proofs.read.read_row.Goals.{then-is_empty-via-then-is_empty, then-is_empty-via-else-is_empty+then-len-gt-ROW_LIMIT}

pub returns-then-is_empty-clause-row : goal.returns-then-is_empty-clause-row
returns-then-is_empty-clause-row c =
    row_refused (before_first is_arrow (words c.args.line.now)) c.in-Some.row (rw c.in-Some.is at c.in_ok-row.ensures.values)
    (elim c.then-is_empty.branch [
      | then-is_empty-via-then-is_empty w ↦ inl (eqb-true _ _ (sym c.is_empty.ensures ∙ w.if-is_empty.true))
      | then-is_empty-via-else-is_empty+then-len-gt-ROW_LIMIT w ↦ inr (omega (arith, w.len.ensures))
    ])

pub returns-clause-row : goal.returns-clause-row
returns-clause-row c =
    row_taken (before_first is_arrow (words c.args.line.now)) c.in-Some.row (rw c.in-Some.is at c.in_ok-row.ensures.values)
    (grind (arith, nat_tests, c.is_empty.ensures, c.if-is_empty.false)) (omega arith)
