use Rattle.std.proofs.Common.{◌∙◌, sym}
use Rattle.log_text.proofs.Parts.{skip_more}
use Rattle.log_text.proofs.words.skip_blanks.Goals as goal

pub loop-at-preserved : goal.loop-at-preserved
loop-at-preserved c = sym (skip_more c.args.line.now c.loop-at.at c.loop-at-test.true c.if-byte-ne32.false) ∙ c.loop-at.invariant
