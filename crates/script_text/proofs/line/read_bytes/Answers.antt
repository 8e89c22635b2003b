use Rattle.std.proofs.Common.{ℕ, List, subst, ap, ◌∙◌}
use Rattle.std.specs.Result.{IfOk, IfErr}
use Rattle.script_text.specs.Words.{line_words, texts}
use Rattle.script_text.specs.Commands.{AreCommandWords}
use Rattle.script_text.specs.Readings.{AreRefused}
use Rattle.script_text.proofs.FirstWords.{of_all, refused_by_all}
use Rattle.script_text.proofs.line.read_bytes.Goals as goal

pub returns-clause-ok : goal.returns-clause-ok
returns-clause-ok c =
    let eight = ap texts c.as_slice.ensures.value ∙ c.in_ok-words.ensures in
    of_all (line_words c.args.line.now) _ (subst (λ (ws : List (List ℕ)). IfOk c.read_words.result (AreCommandWords ws)) eight c.read_words.ensures.ok)

pub returns-clause-refused : goal.returns-clause-refused
returns-clause-refused c =
    let eight = ap texts c.as_slice.ensures.value ∙ c.in_ok-words.ensures in
    refused_by_all (line_words c.args.line.now) _ (subst (λ (ws : List (List ℕ)). IfErr c.read_words.result (AreRefused ws)) eight c.read_words.ensures.refused)
