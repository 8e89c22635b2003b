use Rattle.std.proofs.Common.{◌≡◌, ◌++◌, drop, map, filter}
use Rattle.load_laws.specs.planned.Planned.{stands_stored}
use Rattle.load_defs.proofs.known.push_sets.Given as goal

abbrev pub invariant-rows : goal.invariant-rows
invariant-rows l = l.sets ++ filter (stands_stored l.stored) (map (λ row. row.def) (drop l.row-index l.rows)) ≡ l.initial.sets ++ filter (stands_stored l.stored) (map (λ row. row.def) l.rows)
