use Rattle.std.proofs.Common.{◌≡◌, ◌++◌, drop, map, filter, flat_map}
use Rattle.load_laws.specs.planned.Planned.{stands_stored, known_stored}
use Rattle.load_defs.proofs.known.known_of.Given as goal

abbrev pub invariant-servers : goal.invariant-servers
invariant-servers l = record {
  tables : l.known.tables ++ flat_map (λ server. map (λ row. record { server = server.name; def = row.def }) server.tables) (drop l.server-index l.stored) ≡ (known_stored l.stored).tables;
  registrations : l.known.registrations ++ flat_map (λ server. map (λ row. record { server = server.name; def = row.registration }) server.registrations) (drop l.server-index l.stored) ≡ (known_stored l.stored).registrations;
  sets : l.known.sets ++ flat_map (λ server. filter (stands_stored l.stored) (map (λ row. row.def) server.targets)) (drop l.server-index l.stored) ≡ (known_stored l.stored).sets;
}
