-- What a load of definitions makes of a world.
use Rattle.std.specs.Prelude.{ℕ, false, ◌&&◌, List, [], ◌++◌, map, filter, find, take, drop, Option, None, is_none, slice_set, slice_index_or}
use Rattle.std.specs.Option.{option_map, option_or}
use Rattle.std.specs.Str.{bytes_eq}
use Rattle.repl_types.specs.declared.change_row.Registration.{Registration}
use Rattle.repl_definitions.specs.declared.set.SetDef.{SetDef}
use Rattle.repl_model.specs.World.{Registered, ServerTable, SourceSide, TargetSide, Server, World, server_table, source_side, target_side, empty_server}
use Rattle.spelled_defs.specs.declared.defs.Defs.{Defs}

-- ---- what is new at a server

-- the tables of a text that a server doesn't have, as they stand there at first
abbrev pub new_tables : Defs → Server → List ServerTable
new_tables defs server = map (λ t. record { def = t.def; registered = None }) (filter (λ t. bytes_eq t.server server.name && is_none (server_table t.def.name server)) defs.tables)

-- a registration as it stands at first: inactive
abbrev pub fresh_registration : Registration → Registered
fresh_registration reg = record { reg = reg; active = false; start = 0; floor = 0 }

-- the registration that a text has of a table of a server
abbrev pub registration_in : Defs → Server → ServerTable → Option Registered
registration_in defs server t = option_map (λ r. fresh_registration r.def) (find (λ r. bytes_eq r.server server.name && bytes_eq r.def.table t.def.name) defs.registrations)

-- a table of a server, registered as the text says if it isn't registered yet
abbrev pub register : Defs → Server → ServerTable → ServerTable
register defs server t = record t { registered = option_or t.registered (registration_in defs server t) }

-- a set as it stands at its source at first
abbrev pub fresh_source : SetDef → SourceSide
fresh_source def = record { def = def; mark = 0; signal = 0; t = 0; d = 0; codes = [] }

-- a set as it stands at its target at first
abbrev pub fresh_target : SetDef → TargetSide
fresh_target def = record { def = def; flag = false; trail = []; signal = 0 }

-- the sets of a text whose source a server is, and that don't stand there
abbrev pub new_sources : Defs → Server → List SourceSide
new_sources defs server = map fresh_source (filter (λ def. bytes_eq def.source server.name && is_none (source_side def.id server)) defs.sets)

-- the sets of a text whose target a server is, and that don't stand there
abbrev pub new_targets : Defs → Server → List TargetSide
new_targets defs server = map fresh_target (filter (λ def. bytes_eq def.target server.name && is_none (target_side def.id server)) defs.sets)

-- ---- what it becomes

-- a server after a load
abbrev pub load_server : Defs → Server → Server
load_server defs server = record server {
  tables = map (register defs server) (server.tables ++ new_tables defs server);
  source_sets = server.source_sets ++ new_sources defs server;
  target_sets = server.target_sets ++ new_targets defs server;
}

-- the server of a world with a number
abbrev pub server_at : World → ℕ → Server
server_at world n = slice_index_or world n (empty_server [])

-- a world one of whose servers, the one with this number, is loaded
abbrev pub load_at : Defs → ℕ → World → World
load_at defs n world = slice_set world n (load_server defs (server_at world n))

-- a world whose first servers, as many as this, are loaded
abbrev pub load_first : Defs → ℕ → World → World
load_first defs n world = map (load_server defs) (take n world) ++ drop n world

-- a world whose servers are all loaded
abbrev pub load_all : Defs → World → World
load_all defs world = map (load_server defs) world
