-- What a load of definitions adds at a server.
use Rattle.std.specs.Prelude.{Bool, ◌&&◌, List, ◌++◌, length, map, filter, find, Option, is_none}
use Rattle.std.specs.List.{filter_map, enumerate_from}
use Rattle.std.specs.Option.{option_map}
use Rattle.std.specs.Str.{bytes_eq}
use Rattle.repl_definitions.specs.declared.defined.DefinedTable.{DefinedTable}
use Rattle.repl_definitions.specs.declared.defined.DefinedRegistration.{DefinedRegistration}
use Rattle.repl_definitions.specs.declared.set.SourceSet.{SourceSet}
use Rattle.repl_definitions.specs.declared.set.TargetSet.{TargetSet}
use Rattle.spelled_defs.specs.declared.defs.Defs.{Defs}
use Rattle.spelled_defs.specs.declared.defs.RegistrationAt.{RegistrationAt}
use Rattle.load_plan.specs.Stored.{registration_at}
use Rattle.load_plan.specs.Limits.{gets_table, gets_source, gets_target}
use Rattle.load_plan.specs.declared.stored.StoredServer.{StoredServer}
use Rattle.load_plan.specs.declared.additions.Additions.{Additions}

-- the tables that a server gets, with the numbers after those of the tables that it has
abbrev pub tables_added : Defs → StoredServer → List DefinedTable
tables_added defs server = map (λ t. record { number = t.0; def = t.1.def }) (enumerate_from (length server.tables) (filter (gets_table server) defs.tables))

-- the sets that it gets as their source, with the numbers after those of such sets that it has
abbrev pub sources_added : Defs → StoredServer → List SourceSet
sources_added defs server = map (λ s. record { number = s.0; def = s.1 }) (enumerate_from (length server.sources) (filter (gets_source server) defs.sets))

-- the sets that it gets as their target, likewise
abbrev pub targets_added : Defs → StoredServer → List TargetSet
targets_added defs server = map (λ s. record { number = s.0; def = s.1 }) (enumerate_from (length server.targets) (filter (gets_target server) defs.sets))

-- a server gets a registration: it is for this server, and the table isn't registered there
abbrev pub gets_registration : StoredServer → RegistrationAt → Bool
gets_registration server r = bytes_eq r.server server.name && is_none (registration_at r.def.table server)

-- a registration with its table's number, if the table is one that the server has or gets
abbrev pub numbered_registration : List DefinedTable → RegistrationAt → Option DefinedRegistration
numbered_registration tables r = option_map (λ row. record { number = row.number; registration = r.def }) (find (λ row. bytes_eq r.def.table row.def.name) tables)

-- the registrations that a server gets
abbrev pub registrations_added : Defs → StoredServer → List DefinedRegistration
registrations_added defs server = filter_map (numbered_registration (server.tables ++ tables_added defs server)) (filter (gets_registration server) defs.registrations)

-- all that a server gets
abbrev pub additions_at : Defs → StoredServer → Additions
additions_at defs server = record {
  tables = tables_added defs server;
  registrations = registrations_added defs server;
  sources = sources_added defs server;
  targets = targets_added defs server;
}
