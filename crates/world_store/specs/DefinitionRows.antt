-- The rows of the area Defs, in the order of their keys: tables, registrations and sets by their names, each
-- with its number.
use Rattle.std.specs.Prelude.{ℕ, List, map, Option}
use Rattle.std.specs.List.{filter_map, enumerate_from}
use Rattle.std.specs.Option.{option_map}
use Rattle.repl_types.specs.declared.record.SetId.{SetId}
use Rattle.row_codec.specs.Order.{name_cmp, set_cmp}
use Rattle.repl_definitions.specs.declared.defined.DefinedTable.{DefinedTable}
use Rattle.repl_definitions.specs.declared.defined.DefinedRegistration.{DefinedRegistration}
use Rattle.repl_definitions.specs.declared.set.SourceSet.{SourceSet}
use Rattle.repl_definitions.specs.declared.set.TargetSet.{TargetSet}
use Rattle.repl_model.specs.Summaries.{by_key}
use Rattle.repl_model.specs.World.{ServerTable, Server}

-- tables with their numbers
abbrev pub numbered_tables : Server → List (ℕ × ServerTable)
numbered_tables server = enumerate_from 0 server.tables

-- the tables, under their names
abbrev pub table_rows : Server → List (List ℕ × DefinedTable)
table_rows server = by_key name_cmp (map (λ t. (t.1.def.name, record { number = t.0; def = t.1.def })) (numbered_tables server))

-- a registration with the number of its table, if the table has one
abbrev pub defined_registration : ℕ × ServerTable → Option (List ℕ × DefinedRegistration)
defined_registration t = option_map (λ r. (t.1.def.name, record { number = t.0; registration = r.reg })) t.1.registered

-- the registrations, under the names of their tables
abbrev pub registration_rows : Server → List (List ℕ × DefinedRegistration)
registration_rows server = by_key name_cmp (filter_map defined_registration (numbered_tables server))

-- the sets whose source the server is, under their names
abbrev pub source_set_rows : Server → List (SetId × SourceSet)
source_set_rows server = by_key set_cmp (map (λ s. (s.1.def.id, record { number = s.0; def = s.1.def })) (enumerate_from 0 server.source_sets))

-- the sets whose target it is, under their names
abbrev pub target_set_rows : Server → List (SetId × TargetSet)
target_set_rows server = by_key set_cmp (map (λ s. (s.1.def.id, record { number = s.0; def = s.1.def })) (enumerate_from 0 server.target_sets))
