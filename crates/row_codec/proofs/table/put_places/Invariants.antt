use Rattle.std.proofs.Common.{◌≡◌, ◌++◌, drop}
use Rattle.std.specs.List.{flat_map, AllByRecursion}
use Rattle.row_codec.specs.Spelling.{b16, Is16}
use Rattle.row_codec.proofs.table.put_places.Given as goal

abbrev pub invariant-loop-place : goal.invariant-loop-place
invariant-loop-place l = (l.out.items ++ flat_map b16 (drop l.place-index l.places) ≡ l.initial.out.items ++ flat_map b16 l.places) × AllByRecursion Is16 (drop l.place-index l.places)
