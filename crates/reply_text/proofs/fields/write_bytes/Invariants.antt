use Rattle.std.proofs.Common.{◌≡◌, ◌++◌, take}
use Rattle.reply_text.specs.Lines.{bytes_text}
use Rattle.reply_text.proofs.fields.write_bytes.Given as goal

abbrev pub invariant-loop-byte : goal.invariant-loop-byte
invariant-loop-byte l = l.out.items ≡ l.fn.out.items ++ bytes_text (take l.byte-index l.byte-items)
