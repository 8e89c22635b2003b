use Rattle.std.proofs.Common.{◌≡◌, ◌++◌, take}
use Rattle.std.specs.List.{flat_map, AllByRecursion}
use Rattle.repl_types.specs.ValueText.{IsValue}
use Rattle.repl_types.specs.Value.{images}
use Rattle.row_codec.specs.Spelling.{value_spelling}
use Rattle.row_codec.proofs.row.put_key.Given as goal

abbrev pub invariant-loop-place : goal.invariant-loop-place
invariant-loop-place l = (l.out.items ≡ l.fn.out.items ++ flat_map value_spelling (take l.place-index (images l.place-items l.row))) × AllByRecursion IsValue (take l.place-index (images l.place-items l.row))
