use Rattle.std.proofs.Common.{◌≡◌, drop}
use Rattle.std.specs.List.{AllByRecursion}
use Rattle.load_plan.specs.Differences.{IsSpelledServer, registration_differs}
use Rattle.load_plan.proofs.differences.registration_differs.Given as goal

abbrev pub invariant-servers : goal.invariant-servers
invariant-servers l = record {
  any : registration_differs (drop l.server-index l.stored) l.registration ≡ registration_differs l.stored l.registration;
  spelled : AllByRecursion IsSpelledServer (drop l.server-index l.stored);
}
