use Rattle.std.proofs.Common.{◌≡◌, ◌++◌, drop, map, false}
use Rattle.load_defs.proofs.rows.state_rows.Given as goal

abbrev pub invariant-registrations : goal.invariant-registrations
invariant-registrations l = l.rows ++ map (λ row. (row.number, record { active = false; start = 0; floor = 0 })) (drop l.row-index l.added.registrations) ≡ map (λ row. (row.number, record { active = false; start = 0; floor = 0 })) l.added.registrations
