use Rattle.std.proofs.Common.{sym, ap, ◌∙◌}
use Rattle.log_text.specs.Words.{words}
use Rattle.log_text.specs.Records.{row_of}
use Rattle.log_text.proofs.Values.{after-arrow, update_none, update_alone, update_is}
use Rattle.log_text.proofs.read.read_update.Goals as goal

pub returns-in_default-next_word : goal.returns-in_default-next_word
returns-in_default-next_word c =
    update_alone c.args.table (words c.args.line.now) c.in-Some.before (rw c.in-Some.is at c.in_ok-before.ensures.row) (sym (rw c.in-Some.is at c.in_ok-before.ensures.rest) ∙ c.in_default-next_word.ensures.words)

pub returns-in_default-2 : goal.returns-in_default-2
returns-in_default-2 c =
    let ws = words c.args.line.now in
    let arrow = sym (rw c.in-Some.is at c.in_ok-before.ensures.rest) ∙ c.in-Some-next_word.ensures.words in
    update_none c.args.table ws c.in-Some.before (rw c.in-Some.is at c.in_ok-before.ensures.row) (sym c.in_default-2.is ∙ c.in_ok-after.ensures ∙ ap row_of (sym (after-arrow ws _ _ arrow)))

pub returns : goal.returns
returns c =
    let ws = words c.args.line.now in
    let arrow = sym (rw c.in-Some.is at c.in_ok-before.ensures.rest) ∙ c.in-Some-next_word.ensures.words in
    update_is c.args.table ws c.in-Some.before (rw c.in-Some.is at c.in_ok-before.ensures.row) c.in-Some-2.after (sym c.in-Some-2.is ∙ c.in_ok-after.ensures ∙ ap row_of (sym (after-arrow ws _ _ arrow)))
