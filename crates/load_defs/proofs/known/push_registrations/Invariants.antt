use Rattle.std.proofs.Common.{◌≡◌, ◌++◌, drop, map}
use Rattle.load_defs.proofs.known.push_registrations.Given as goal

abbrev pub invariant-rows : goal.invariant-rows
invariant-rows l = l.registrations ++ map (λ row. record { server = l.server.name; def = row.registration }) (drop l.row-index l.server.registrations) ≡ l.initial.registrations ++ map (λ row. record { server = l.server.name; def = row.registration }) l.server.registrations
