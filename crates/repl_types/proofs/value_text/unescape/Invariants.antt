use Rattle.std.proofs.Common.{◌≡◌, ◌++◌, length}
use Rattle.std.specs.Option.{option_map}
use Rattle.repl_types.specs.ValueText.{unescaped}
use Rattle.repl_types.proofs.value_text.unescape.Given as goal

-- what is read already, followed by what is still read, is the whole
abbrev pub invariant-loop-byte : goal.invariant-loop-byte
invariant-loop-byte l = option_map (λ t. l.text.items ++ t) (unescaped l.rest) ≡ unescaped l.quoted

abbrev pub decreases-loop-byte : goal.decreases-loop-byte
decreases-loop-byte l = length l.rest
