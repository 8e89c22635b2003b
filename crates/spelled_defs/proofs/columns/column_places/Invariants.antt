use Rattle.std.proofs.Common.{◌≡◌, ◌++◌, drop, filter_map}
use Rattle.spelled_defs.specs.Spelled.{column_place}
use Rattle.spelled_defs.proofs.columns.column_places.Given as goal

abbrev pub invariant-names : goal.invariant-names
invariant-names l =
    l.places ++ filter_map (column_place l.columns) (drop l.name-index l.names) ≡ filter_map (column_place l.columns) l.names
