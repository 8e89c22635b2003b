use Rattle.std.proofs.Common.{◌≡◌, false, take, drop}
use Rattle.log_text.specs.Words.{parts}
use Rattle.log_text.proofs.Parts.{with_front}
use Rattle.log_text.proofs.words.word_end.Given as goal

abbrev pub invariant-loop-at : goal.invariant-loop-at
invariant-loop-at l = record {
  front : parts false l.line ≡ with_front (take l.at l.line) (parts l.quoted (drop l.at l.line));
  at_start : l.at ≡ 0 → l.quoted ≡ false;
}
