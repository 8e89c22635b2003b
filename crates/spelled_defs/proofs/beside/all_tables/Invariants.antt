use Rattle.std.proofs.Common.{◌≡◌, ◌++◌, drop, filter, filter_map}
use Rattle.spelled_defs.specs.Spelled.{spelled_table}
use Rattle.spelled_defs.specs.Context.{is_other_table}
use Rattle.spelled_defs.proofs.beside.all_tables.Given as goal

abbrev pub invariant-known : goal.invariant-known
invariant-known l =
    l.tables ++ filter (is_other_table l.raw.tables) (drop l.table-index l.table-items) ≡ filter_map spelled_table l.raw.tables ++ filter (is_other_table l.raw.tables) l.table-items
