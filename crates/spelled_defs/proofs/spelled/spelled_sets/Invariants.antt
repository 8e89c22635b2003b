use Rattle.std.proofs.Common.{◌≡◌, ◌++◌, drop, filter_map}
use Rattle.spelled_defs.specs.Spelled.{spelled_set}
use Rattle.spelled_defs.proofs.spelled.spelled_sets.Given as goal

abbrev pub invariant-sets : goal.invariant-sets
invariant-sets l =
    l.spelled ++ filter_map (spelled_set l.tables) (drop l.set-index l.sets) ≡ filter_map (spelled_set l.tables) l.sets
