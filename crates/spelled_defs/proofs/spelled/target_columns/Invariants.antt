use Rattle.std.proofs.Common.{◌≡◌, ◌++◌, drop, filter_map}
use Rattle.spelled_defs.specs.Spelled.{target_column}
use Rattle.spelled_defs.proofs.spelled.target_columns.Given as goal

abbrev pub invariant-entries : goal.invariant-entries
invariant-entries l =
    l.spelled ++ filter_map (target_column l.columns) (drop l.entry-index l.entries) ≡ filter_map (target_column l.columns) l.entries
