use Rattle.std.proofs.Common.{◌≡◌, ◌++◌, length}
use Rattle.row_codec.specs.Spelling.{zeros_marked}
use Rattle.row_codec.proofs.value.take_bytes.Given as goal

abbrev pub invariant-loop-byte : goal.invariant-loop-byte
invariant-loop-byte l = l.bytes ≡ zeros_marked l.text.items ++ l.left

abbrev pub decreases-loop-byte : goal.decreases-loop-byte
decreases-loop-byte l = length l.left
