use Rattle.std.proofs.Common.{sym, ap, ◌∙◌, Err}
use Rattle.repl_defs.specs.laws.TextTrees.{is_source_text, source_tree_is, nothing_found}
use Rattle.repl_defs.proofs.texts.find_source.Goals as goal

pub returns-in-Ok : goal.returns-in-Ok
returns-in-Ok c = sym (source_tree_is _ _ _ c.in-Ok.ensures.ok)

pub returns-in-Err-BadText : goal.returns-in-Err-BadText
returns-in-Err-BadText c = sym (nothing_found _ (λ from found. c.source_of_text.ensures.refused (c.in-Err-BadText.is ∙ ap Err c.in-Err-BadText.field-0-is) from (is_source_text _ _ from found)))
