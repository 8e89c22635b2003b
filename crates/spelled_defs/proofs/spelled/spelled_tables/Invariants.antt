use Rattle.std.proofs.Common.{◌≡◌, ◌++◌, drop, filter_map}
use Rattle.spelled_defs.specs.Spelled.{spelled_table}
use Rattle.spelled_defs.proofs.spelled.spelled_tables.Given as goal

abbrev pub invariant-tables : goal.invariant-tables
invariant-tables l =
    l.spelled ++ filter_map (spelled_table) (drop l.table-index l.tables) ≡ filter_map (spelled_table) l.tables
