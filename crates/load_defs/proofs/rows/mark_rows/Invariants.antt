use Rattle.std.proofs.Common.{◌≡◌, ◌++◌, drop, map}
use Rattle.load_defs.proofs.rows.mark_rows.Given as goal

abbrev pub invariant-sets : goal.invariant-sets
invariant-sets l = l.rows ++ map (λ row. (row.number, record { mark = 0; signal = 0 })) (drop l.row-index l.added.sources) ≡ map (λ row. (row.number, record { mark = 0; signal = 0 })) l.added.sources
