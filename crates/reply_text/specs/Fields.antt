-- The texts of fields, as the code makes lines of them.
use Rattle.std.specs.Prelude.{ℕ, List, ◌∷◌, ◌++◌, decimal}
use Rattle.log_text.specs.Words.{blank}
use Rattle.repl_types.specs.Sequence.{sequence_text}
use Rattle.reply_text.specs.declared.fields.Field.{Field}
use Rattle.reply_text.specs.declared.fields.Field.TheVariants as fields
use Rattle.reply_text.specs.Lines.{position_text, point_text, table_text, set_text, bytes_text, rule_text}

-- the text of a field
abbrev pub field_text : Field → List ℕ
field_text (fields.Text text) = text.now
field_text (fields.Number number) = decimal number
field_text (fields.Position position) = position_text position
field_text (fields.Place sequence) = sequence_text sequence
field_text (fields.Name name) = name.now
field_text (fields.Table server table) = table_text server.now table.now
field_text (fields.Set set) = set_text set.now
field_text (fields.Bytes bytes) = bytes_text bytes.now
field_text (fields.Rule rule) = rule_text rule
field_text (fields.Count label number) = label.now ++ blank ∷ decimal number
field_text (fields.At label position) = label.now ++ blank ∷ position_text position
field_text (fields.Point label point) = label.now ++ blank ∷ point_text point
