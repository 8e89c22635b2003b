use Rattle.std.proofs.Common.{◌≡◌, ◌++◌, drop}
use Rattle.spelled_defs.specs.Spelled.{named_places}
use Rattle.spelled_defs.proofs.columns.named_places.Given as goal

abbrev pub invariant-columns : goal.invariant-columns
invariant-columns l =
    l.places ++ named_places l.names l.place (drop l.place l.columns) ≡ named_places l.names 0 l.columns
