use Rattle.std.proofs.Common.{◌≡◌, ◌++◌, drop, map}
use Rattle.load_defs.proofs.known.push_tables.Given as goal

abbrev pub invariant-rows : goal.invariant-rows
invariant-rows l = l.tables ++ map (λ row. record { server = l.server.name; def = row.def }) (drop l.row-index l.server.tables) ≡ l.initial.tables ++ map (λ row. record { server = l.server.name; def = row.def }) l.server.tables
