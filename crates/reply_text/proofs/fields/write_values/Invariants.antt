use Rattle.std.proofs.Common.{◌≡◌, ◌++◌, map, take}
use Rattle.repl_types.specs.ValueText.{value_text}
use Rattle.log_text.specs.RecordText.{spaced}
use Rattle.reply_text.proofs.fields.write_values.Given as goal

abbrev pub invariant-loop-value : goal.invariant-loop-value
invariant-loop-value l = l.out.items ≡ l.fn.out.items ++ spaced (map value_text (take l.value-index l.row))
