use Rattle.std.proofs.Common.{◌≡◌, ◌++◌, drop, filter_map}
use Rattle.spelled_defs.specs.Spelled.{spelled_column}
use Rattle.spelled_defs.proofs.spelled.spelled_columns.Given as goal

abbrev pub invariant-entries : goal.invariant-entries
invariant-entries l =
    l.columns ++ filter_map (spelled_column) (drop l.entry-index l.entries) ≡ filter_map (spelled_column) l.entries
