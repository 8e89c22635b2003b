use Rattle.std.proofs.Common.{◌≡◌, ◌++◌, drop, filter_map}
use Rattle.spelled_defs.specs.Spelled.{spelled_registration}
use Rattle.spelled_defs.proofs.spelled.spelled_registrations.Given as goal

abbrev pub invariant-registrations : goal.invariant-registrations
invariant-registrations l =
    l.spelled ++ filter_map (spelled_registration l.tables) (drop l.registration-index l.registrations) ≡ filter_map (spelled_registration l.tables) l.registrations
