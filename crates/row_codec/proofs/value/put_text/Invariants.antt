use Rattle.std.proofs.Common.{◌≡◌, ◌++◌, ◌∷◌, take}
use Rattle.row_codec.specs.Spelling.{zeros_marked}
use Rattle.row_codec.proofs.value.put_text.Given as goal

abbrev pub invariant-loop-byte : goal.invariant-loop-byte
invariant-loop-byte l = l.out.items ≡ l.fn.out.items ++ 2 ∷ zeros_marked (take l.byte-index l.byte-items)
