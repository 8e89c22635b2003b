use Rattle.std.proofs.Common.{◌≡◌, ◌+◌, ◌++◌, length, drop, map, filter, count_by}
use Rattle.std.specs.List.{enumerate_from}
use Rattle.load_plan.specs.Limits.{gets_table}
use Rattle.load_plan.proofs.additions.tables_added.Given as goal

abbrev pub invariant-tables : goal.invariant-tables
invariant-tables l = record {
  rows : l.rows ++ map (λ t. record { number = t.0; def = t.1.def }) (enumerate_from l.number (filter (gets_table l.server) (drop l.table-index l.defs.tables))) ≡ map (λ t. record { number = t.0; def = t.1.def }) (enumerate_from (length l.server.tables) (filter (gets_table l.server) l.defs.tables));
  count : l.number + count_by (gets_table l.server) (drop l.table-index l.defs.tables) ≡ length l.server.tables + count_by (gets_table l.server) l.defs.tables;
}
