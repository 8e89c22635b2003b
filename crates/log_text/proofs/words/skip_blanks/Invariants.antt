use Rattle.std.proofs.Common.{◌≡◌, drop}
use Rattle.log_text.specs.Words.{words}
use Rattle.log_text.proofs.words.skip_blanks.Given as goal

abbrev pub invariant-loop-at : goal.invariant-loop-at
invariant-loop-at l = words (drop l.at l.line) ≡ words l.line
