use Rattle.std.proofs.Common.{sym, ◌∙◌}
use Rattle.log_text.specs.Words.{words}
use Rattle.log_text.proofs.Values.{last_is, last_arrow, last_none}
use Rattle.log_text.proofs.read.read_last_row.Goals as goal

pub returns-in_default : goal.returns-in_default
returns-in_default c = last_none (words c.args.line.now) (rw c.in_default.is at c.in_ok-row.ensures.row)

pub returns-in-None : goal.returns-in-None
returns-in-None c =
    last_is (words c.args.line.now) c.in-Some.row (sym (rw c.in-Some.is at c.in_ok-row.ensures.rest) ∙ c.in-None.ensures.words) (rw c.in-Some.is at c.in_ok-row.ensures.row)

pub returns-in-Some-next_word : goal.returns-in-Some-next_word
returns-in-Some-next_word c =
    last_arrow (words c.args.line.now) _ _ (sym (rw c.in-Some.is at c.in_ok-row.ensures.rest) ∙ c.in-Some-next_word.ensures.words)
