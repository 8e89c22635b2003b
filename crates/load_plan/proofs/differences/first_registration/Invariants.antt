use Rattle.std.proofs.Common.{◌≡◌, drop, find}
use Rattle.std.specs.List.{AllByRecursion}
use Rattle.row_codec.specs.Definitions.{HasRegistrationSpelling}
use Rattle.load_plan.specs.Differences.{registration_differs}
use Rattle.load_plan.proofs.differences.first_registration.Given as goal

abbrev pub invariant-registrations : goal.invariant-registrations
invariant-registrations l = record {
  first : find (registration_differs l.stored) (drop l.registration-index l.defs.registrations) ≡ find (registration_differs l.stored) l.defs.registrations;
  spelled : AllByRecursion (λ r. HasRegistrationSpelling r.def) (drop l.registration-index l.defs.registrations);
}
