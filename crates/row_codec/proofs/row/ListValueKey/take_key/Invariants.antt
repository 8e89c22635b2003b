use Rattle.std.proofs.Common.{◌≡◌, ◌++◌, length}
use Rattle.std.specs.List.{flat_map, AllByRecursion}
use Rattle.repl_types.specs.ValueText.{IsValue}
use Rattle.row_codec.specs.Spelling.{value_spelling}
use Rattle.row_codec.proofs.row.ListValueKey.take_key.Given as goal

abbrev pub invariant-loop-left : goal.invariant-loop-left
invariant-loop-left l = (l.bytes ≡ flat_map value_spelling l.values ++ l.left) × AllByRecursion IsValue l.values

abbrev pub decreases-loop-left : goal.decreases-loop-left
decreases-loop-left l = length l.left
