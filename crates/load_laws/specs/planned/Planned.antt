-- What servers keep of definitions in a world, and what tables become when rows are put.
use Rattle.std.specs.Prelude.{ℕ, Bool, false, List, map, filter, find, fold, Some, is_some}
use Rattle.std.specs.List.{flat_map}
use Rattle.std.specs.Option.{option_map_or}
use Rattle.std.specs.Str.{bytes_eq}
use Rattle.keep_core.specs.Contents.{Table, set_key}
use Rattle.repl_types.specs.declared.record.SetId.{SetId}
use Rattle.repl_definitions.specs.declared.set.SetDef.{SetDef}
use Rattle.repl_definitions.specs.declared.defined.DefinedTable.{DefinedTable}
use Rattle.repl_definitions.specs.declared.defined.DefinedRegistration.{DefinedRegistration}
use Rattle.repl_definitions.specs.declared.set.SourceSet.{SourceSet}
use Rattle.repl_definitions.specs.declared.set.TargetSet.{TargetSet}
use Rattle.repl_records.specs.declared.capture.RegState.{RegState}
use Rattle.repl_records.specs.declared.prune.SyncMark.{SyncMark}
use Rattle.repl_model.specs.World.{Server, World}
use Rattle.spelled_defs.specs.declared.defs.Defs.{Defs}
use Rattle.world_store.specs.DefinitionRows.{table_rows, registration_rows, source_set_rows, target_set_rows}
use Rattle.load_plan.specs.Stored.{source_at}
use Rattle.load_plan.specs.declared.stored.StoredServer.{StoredServer}
use Rattle.load_plan.specs.declared.additions.Additions.{Additions}

-- ---- what servers keep

-- what a server of a world keeps of definitions, each kind in the order of its names
abbrev pub stored_server : Server → StoredServer
stored_server server = record {
  name = server.name;
  tables = map (λ r. r.1) (table_rows server);
  registrations = map (λ r. r.1) (registration_rows server);
  sources = map (λ r. r.1) (source_set_rows server);
  targets = map (λ r. r.1) (target_set_rows server);
}

-- what the servers of a world keep
abbrev pub stored_servers : World → List StoredServer
stored_servers world = map stored_server world

-- a set stands at its source
abbrev pub stands_stored : List StoredServer → SetDef → Bool
stands_stored stored def = option_map_or (λ source. is_some (source_at def.id source)) (find (λ source. bytes_eq def.source source.name) stored) false

-- all definitions that are known, server by server: the sets are those at their targets that stand at their sources too
abbrev pub known_stored : List StoredServer → Defs
known_stored stored = record {
  tables = flat_map (λ server. map (λ row. record { server = server.name; def = row.def }) server.tables) stored;
  registrations = flat_map (λ server. map (λ row. record { server = server.name; def = row.registration }) server.registrations) stored;
  sets = flat_map (λ server. filter (stands_stored stored) (map (λ row. row.def) server.targets)) stored;
}

-- ---- rows that are put

-- a table after rows were put, one after another
abbrev pub with_rows : {A X : Type 0} → (A → List ℕ) → (X → List ℕ) → List (A × X) → Table → Table
with_rows key value rows table = fold (λ t r. set_key t (key r.0) (Some (value r.1))) table rows

-- the rows of tables that are added, under their names
abbrev pub table_additions : Additions → List (List ℕ × DefinedTable)
table_additions added = map (λ row. (row.def.name, row)) added.tables

-- those of registrations, under the names of their tables
abbrev pub registration_additions : Additions → List (List ℕ × DefinedRegistration)
registration_additions added = map (λ row. (row.registration.table, row)) added.registrations

-- the first states of these registrations, under the numbers of their tables: inactive
abbrev pub state_additions : Additions → List (ℕ × RegState)
state_additions added = map (λ row. (row.number, record { active = false; start = 0; floor = 0 })) added.registrations

-- those of sets whose source the server is, under their names
abbrev pub source_additions : Additions → List (SetId × SourceSet)
source_additions added = map (λ row. (row.def.id, row)) added.sources

-- the first marks of these sets, under their numbers: nothing is reported
abbrev pub mark_additions : Additions → List (ℕ × SyncMark)
mark_additions added = map (λ row. (row.number, record { mark = 0; signal = 0 })) added.sources

-- those of sets whose target it is, under their names
abbrev pub target_additions : Additions → List (SetId × TargetSet)
target_additions added = map (λ row. (row.def.id, row)) added.targets
