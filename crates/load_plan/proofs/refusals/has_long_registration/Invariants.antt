use Rattle.std.proofs.Common.{◌≡◌, ◌+◌, length, drop, nat_lt}
use Rattle.std.specs.List.{AllByRecursion, list_any}
use Rattle.repl_model.specs.Words.{value_limit}
use Rattle.row_codec.specs.Definitions.{registration_spelling, HasRegistrationSpelling}
use Rattle.load_plan.proofs.refusals.has_long_registration.Given as goal

abbrev pub invariant-registrations : goal.invariant-registrations
invariant-registrations l = record {
  any : list_any (λ r. nat_lt value_limit (length (registration_spelling r.def) + 4)) (drop l.registration-index l.registrations) ≡ list_any (λ r. nat_lt value_limit (length (registration_spelling r.def) + 4)) l.registrations;
  spelled : AllByRecursion (λ r. HasRegistrationSpelling r.def) (drop l.registration-index l.registrations);
}
