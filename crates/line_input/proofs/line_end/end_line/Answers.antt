use Rattle.std.proofs.Common.{ap, ◌∙◌, arith, length}
use Rattle.std.specs.Str.Lines.{strip_carriage_return}
use Rattle.line_input.proofs.LineBytes.{kept_all, kept_more, stripped_len, stripped_whole, stripped_kept}
use Rattle.line_input.proofs.line_end.end_line.Goals as goal

pub returns-then-long-clause-ends : goal.returns-then-long-clause-ends
returns-then-long-clause-ends c = λ bytes kept. (
  omega (arith, kept_more bytes c.args.line.now.items c.args.long kept c.if-long.true, stripped_len bytes),
  stripped_kept bytes c.args.line.now.items c.args.long kept c.if-long.true,
)

pub returns-then-len-gt-LINE_LIMIT-clause-ends : goal.returns-then-len-gt-LINE_LIMIT-clause-ends
returns-then-len-gt-LINE_LIMIT-clause-ends c = λ bytes kept.
    let same = c.strip.ensures ∙ ap strip_carriage_return (kept_all bytes c.args.line.now.items c.args.long kept c.if-long.false) in (
      omega (arith, c.len.ensures, c.if-len-gt-LINE_LIMIT.true, ap length same),
      stripped_whole bytes c.args.line.now.items c.strip.new.line.items c.args.long kept c.if-long.false c.strip.ensures,
    )

pub returns-clause-ends : goal.returns-clause-ends
returns-clause-ends c = λ bytes kept. (c.strip.ensures ∙ ap strip_carriage_return (kept_all bytes c.args.line.now.items c.args.long kept c.if-long.false), omega arith)
