use Rattle.std.proofs.Common.{◌≡◌, drop}
use Rattle.std.specs.List.{AllByRecursion}
use Rattle.load_plan.specs.Differences.{IsSpelledServer, table_differs}
use Rattle.load_plan.proofs.differences.table_differs.Given as goal

abbrev pub invariant-servers : goal.invariant-servers
invariant-servers l = record {
  any : table_differs (drop l.server-index l.stored) l.table ≡ table_differs l.stored l.table;
  spelled : AllByRecursion IsSpelledServer (drop l.server-index l.stored);
}
