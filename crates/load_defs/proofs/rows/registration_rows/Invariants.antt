use Rattle.std.proofs.Common.{◌≡◌, ◌++◌, drop, map}
use Rattle.load_defs.proofs.rows.registration_rows.Given as goal

abbrev pub invariant-registrations : goal.invariant-registrations
invariant-registrations l = l.rows ++ map (λ row. (row.registration.table, row)) (drop l.row-index l.added.registrations) ≡ map (λ row. (row.registration.table, row)) l.added.registrations
