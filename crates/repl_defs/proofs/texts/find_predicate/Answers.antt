use Rattle.std.proofs.Common.{sym, ap, ◌∙◌, Err}
use Rattle.repl_defs.specs.laws.TextTrees.{is_predicate_text, predicate_tree_is, nothing_found}
use Rattle.repl_defs.proofs.texts.find_predicate.Goals as goal

pub returns-in-Ok : goal.returns-in-Ok
returns-in-Ok c = sym (predicate_tree_is _ _ _ c.in-Ok.ensures.ok)

pub returns-in-Err-BadText : goal.returns-in-Err-BadText
returns-in-Err-BadText c = sym (nothing_found _ (λ p found. c.predicate_of_text.ensures.refused (c.in-Err-BadText.is ∙ ap Err c.in-Err-BadText.field-0-is) p (is_predicate_text _ _ p found)))
