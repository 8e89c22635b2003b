use Rattle.std.proofs.Common.{◌≡◌, ◌++◌, take}
use Rattle.std.specs.List.{flat_map, AllByRecursion}
use Rattle.repl_types.specs.ValueText.{IsValue}
use Rattle.row_codec.specs.Spelling.{value_spelling}
use Rattle.row_codec.proofs.row.ListValueKey.put_key.Given as goal

abbrev pub invariant-loop-value : goal.invariant-loop-value
invariant-loop-value l = (l.out.items ≡ l.fn.out.items ++ flat_map value_spelling (take l.value-index l.value-items)) × AllByRecursion IsValue (take l.value-index l.value-items)
