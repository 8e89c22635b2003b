use Rattle.std.proofs.Common.{◌≡◌, ◌++◌, drop, map}
use Rattle.load_defs.proofs.rows.table_rows.Given as goal

abbrev pub invariant-tables : goal.invariant-tables
invariant-tables l = l.rows ++ map (λ row. (row.def.name, row)) (drop l.row-index l.added.tables) ≡ map (λ row. (row.def.name, row)) l.added.tables
