use Rattle.std.proofs.Common.{◌≡◌, ◌++◌, drop, filter, filter_map}
use Rattle.load_plan.specs.Additions.{gets_registration, numbered_registration}
use Rattle.load_plan.proofs.additions.numbered_registrations.Given as goal

abbrev pub invariant-registrations : goal.invariant-registrations
invariant-registrations l = l.rows ++ filter_map (numbered_registration l.tables) (filter (gets_registration l.server) (drop l.registration-index l.defs.registrations)) ≡ filter_map (numbered_registration l.tables) (filter (gets_registration l.server) l.defs.registrations)
