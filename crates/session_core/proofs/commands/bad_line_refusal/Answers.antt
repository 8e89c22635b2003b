use Rattle.std.proofs.Common.{◌∙◌, refl, sym, rules}
use Rattle.std.proofs.lemmas.Str.{is_utf8-from_IsUtf8}
use Rattle.session_core.proofs.Names.{not_text}
use Rattle.session_core.proofs.commands.bad_line_refusal.Goals as goal

pub returns-then-is_err : goal.returns-then-is_err
returns-then-is_err c = rw (not_text c.args.line.now (search rules)) refl

pub returns-then-begins_with_carried_out_verb : goal.returns-then-begins_with_carried_out_verb
returns-then-begins_with_carried_out_verb c = rw (is_utf8-from_IsUtf8 c.args.line.now (search rules), sym c.begins_with_carried_out_verb.ensures ∙ c.if-begins_with_carried_out_verb.true) refl

pub returns : goal.returns
returns c = rw (is_utf8-from_IsUtf8 c.args.line.now (search rules), sym c.begins_with_carried_out_verb.ensures ∙ c.if-begins_with_carried_out_verb.false) refl
