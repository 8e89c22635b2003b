use Rattle.std.proofs.Common.{◌≡◌, ◌++◌, drop, length}
use Rattle.std.specs.List.{range_with_len}
use Rattle.spelled_defs.proofs.columns.all_places.Given as goal

abbrev pub invariant-columns : goal.invariant-columns
invariant-columns l =
    l.places ++ range_with_len l.place (length (drop l.place l.columns)) ≡ range_with_len 0 (length l.columns)
