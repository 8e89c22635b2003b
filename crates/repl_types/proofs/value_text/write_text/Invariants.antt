use Rattle.std.proofs.Common.{◌≡◌, ◌++◌, ◌∷◌, take}
use Rattle.repl_types.specs.ValueText.{escaped}
use Rattle.repl_types.proofs.value_text.write_text.Given as goal

abbrev pub invariant-loop-byte : goal.invariant-loop-byte
invariant-loop-byte l = l.out.items ≡ l.fn.out.items ++ 39 ∷ escaped (take l.byte-index l.byte-items)
