-- Which definitions are known in a world.
use Rattle.std.specs.Prelude.{Bool, false, List, map, filter, is_some}
use Rattle.std.specs.List.{flat_map}
use Rattle.std.specs.Option.{option_map_or}
use Rattle.repl_definitions.specs.declared.set.SetDef.{SetDef}
use Rattle.repl_model.specs.World.{Server, World, server_named, source_side}
use Rattle.world_store.specs.DefinitionRows.{table_rows, registration_rows, target_set_rows}
use Rattle.spelled_defs.specs.declared.defs.Defs.{Defs}
use Rattle.spelled_defs.specs.declared.defs.TableAt.{TableAt}
use Rattle.spelled_defs.specs.declared.defs.RegistrationAt.{RegistrationAt}

-- the tables of a server, in the order of their names
abbrev pub tables_at : Server → List TableAt
tables_at server = map (λ r. record { server = server.name; def = r.1.def }) (table_rows server)

-- its registrations, in the order of the names of their tables
abbrev pub registrations_at : Server → List RegistrationAt
registrations_at server = map (λ r. record { server = server.name; def = r.1.registration }) (registration_rows server)

-- a set stands at its source
abbrev pub stands_at_source : World → SetDef → Bool
stands_at_source world def = option_map_or (λ source. is_some (source_side def.id source)) (server_named def.source world) false

-- the sets whose target a server is, in the order of their names, that stand at their source too
abbrev pub sets_at : World → Server → List SetDef
sets_at world server = filter (stands_at_source world) (map (λ r. r.1.def) (target_set_rows server))

-- all definitions that are known, server by server
abbrev pub known_defs : World → Defs
known_defs world = record {
  tables = flat_map tables_at world;
  registrations = flat_map registrations_at world;
  sets = flat_map (sets_at world) world;
}
