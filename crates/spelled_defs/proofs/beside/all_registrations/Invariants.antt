use Rattle.std.proofs.Common.{◌≡◌, ◌++◌, drop, filter, filter_map}
use Rattle.spelled_defs.specs.Spelled.{spelled_registration}
use Rattle.spelled_defs.specs.Context.{is_other_registration}
use Rattle.spelled_defs.proofs.beside.all_registrations.Given as goal

abbrev pub invariant-known : goal.invariant-known
invariant-known l =
    l.registrations ++ filter (is_other_registration l.raw.registrations) (drop l.registration-index l.registration-items) ≡ filter_map (spelled_registration l.tables) l.raw.registrations ++ filter (is_other_registration l.raw.registrations) l.registration-items
