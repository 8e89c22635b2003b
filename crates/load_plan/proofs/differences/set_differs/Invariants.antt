use Rattle.std.proofs.Common.{◌≡◌, drop}
use Rattle.std.specs.List.{AllByRecursion}
use Rattle.load_plan.specs.Differences.{IsSpelledServer, set_differs}
use Rattle.load_plan.proofs.differences.set_differs.Given as goal

abbrev pub invariant-servers : goal.invariant-servers
invariant-servers l = record {
  any : set_differs (drop l.server-index l.stored) l.set ≡ set_differs l.stored l.set;
  spelled : AllByRecursion IsSpelledServer (drop l.server-index l.stored);
}
