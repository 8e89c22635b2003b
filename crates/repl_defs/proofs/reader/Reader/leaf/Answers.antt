-- The kinds of a column, an integer and a text.
use Rattle.std.proofs.Common.{sym, ◌∙◌}
use Rattle.repl_model.specs.Words.{kind_column, kind_int, kind_text}
use Rattle.repl_defs.proofs.reader.Reader.leaf.Goals as goal

pub returns-in-Some-clause-kind : goal.returns-in-Some-clause-kind
returns-in-Some-clause-kind c = c.kind_at.ensures ∙ sym (kind_column _ _)

pub returns-in_ok-text-in-Text-clause-kind : goal.returns-in_ok-text-in-Text-clause-kind
returns-in_ok-text-in-Text-clause-kind c = sym (kind_text _ _)

pub returns-in-Some-integer-clause-kind : goal.returns-in-Some-integer-clause-kind
returns-in-Some-integer-clause-kind c = sym (kind_int _ _)
