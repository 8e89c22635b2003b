use Rattle.std.proofs.Common.{◌≡◌, ◌++◌, drop, map}
use Rattle.load_defs.proofs.rows.source_rows.Given as goal

abbrev pub invariant-sets : goal.invariant-sets
invariant-sets l = l.rows ++ map (λ row. (row.def.id, row)) (drop l.row-index l.added.sources) ≡ map (λ row. (row.def.id, row)) l.added.sources
