use Rattle.std.proofs.Common.{◌≡◌, drop, find}
use Rattle.std.specs.List.{AllByRecursion}
use Rattle.row_codec.specs.Definitions.{HasTableSpelling}
use Rattle.load_plan.specs.Differences.{table_differs}
use Rattle.load_plan.proofs.differences.first_table.Given as goal

abbrev pub invariant-tables : goal.invariant-tables
invariant-tables l = record {
  first : find (table_differs l.stored) (drop l.table-index l.defs.tables) ≡ find (table_differs l.stored) l.defs.tables;
  spelled : AllByRecursion (λ t. HasTableSpelling t.def) (drop l.table-index l.defs.tables);
}
