use Rattle.std.proofs.Common.{ap, sym, ◌∙◌, arith, length, eqb-true}
use Rattle.std.proofs.lemmas.Bool.Decides.{nat_tests}
use Rattle.std.proofs.lemmas.List.{nil_from_length}
use Rattle.line_input.proofs.LineBytes.{kept_all, kept_more, kept_over}
use Rattle.line_input.proofs.line_end.last.Goals as goal
use Rattle.line_input.proofs.line_end.last.Goals.{then-long-via-then-long, then-long-via-else-long+then-line-gt-LINE_LIMIT}

pub returns-then-long : goal.returns-then-long
returns-then-long c = λ bytes kept. elim c.then-long.branch [
  | then-long-via-then-long w ↦ (omega (arith, kept_more bytes c.args.line.now c.args.long kept w.if-long.true), kept.prefix)
  | then-long-via-else-long+then-line-gt-LINE_LIMIT w ↦ (omega (arith, kept_over bytes c.args.line.now c.args.long kept, w.if-line-gt-LINE_LIMIT.true), kept.prefix)
]

pub returns-then-is_empty : goal.returns-then-is_empty
returns-then-is_empty c = λ bytes kept.
    sym (kept_all bytes c.args.line.now c.args.long kept c.if-long.false) ∙ nil_from_length c.args.line.now (eqb-true _ _ (sym c.is_empty.ensures ∙ c.if-is_empty.true))

pub returns : goal.returns
returns c = λ bytes kept.
    let same = kept_all bytes c.args.line.now c.args.long kept c.if-long.false in
    (same, grind (arith, nat_tests, ap length same, c.is_empty.ensures, c.if-is_empty.false), omega arith)
