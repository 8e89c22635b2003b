use Rattle.std.proofs.Common.{◌≡◌, ◌++◌, map, take}
use Rattle.log_text.specs.RecordText.{spaced}
use Rattle.reply_text.specs.Fields.{field_text}
use Rattle.reply_text.proofs.fields.write_fields.Given as goal

abbrev pub invariant-loop-field : goal.invariant-loop-field
invariant-loop-field l = l.out.items ≡ l.fn.out.items ++ spaced (map field_text (take l.field-index l.fields))
