use Rattle.std.proofs.Common.{sym, ◌∙◌}
use Rattle.std.proofs.lemmas.Bool.{eqb-true}
use Rattle.log_text.proofs.Parts.{words-nil}
use Rattle.log_text.proofs.words.next_word.Goals as goal

pub returns-then-is_empty-clause-words : goal.returns-then-is_empty-clause-words
returns-then-is_empty-clause-words c =
    let rest = c.skip_blanks-rest.result.now in
    sym c.skip_blanks-rest.ensures.same ∙ words-nil rest (eqb-true _ _ (sym c.is_empty.ensures ∙ c.if-is_empty.true))
