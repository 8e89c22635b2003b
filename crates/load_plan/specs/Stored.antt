-- What stands under a name in what a server keeps of definitions.
use Rattle.std.specs.Prelude.{ℕ, List, Option, find}
use Rattle.std.specs.Option.{option_map}
use Rattle.std.specs.Str.{bytes_eq}
use Rattle.repl_types.specs.declared.record.SetId.{SetId}
use Rattle.repl_types.specs.declared.table.TableDef.{TableDef}
use Rattle.repl_types.specs.declared.change_row.Registration.{Registration}
use Rattle.repl_definitions.specs.declared.set.SetDef.{SetDef}
use Rattle.repl_model.specs.World.{same_set}
use Rattle.load_plan.specs.declared.stored.StoredServer.{StoredServer}

-- the table of a name
abbrev pub table_at : List ℕ → StoredServer → Option TableDef
table_at name server = option_map (λ row. row.def) (find (λ row. bytes_eq name row.def.name) server.tables)

-- the registration of a table of this name
abbrev pub registration_at : List ℕ → StoredServer → Option Registration
registration_at table server = option_map (λ row. row.registration) (find (λ row. bytes_eq table row.registration.table) server.registrations)

-- the set of a name whose source the server is
abbrev pub source_at : SetId → StoredServer → Option SetDef
source_at id server = option_map (λ row. row.def) (find (λ row. same_set id row.def.id) server.sources)

-- the set of a name whose target the server is
abbrev pub target_at : SetId → StoredServer → Option SetDef
target_at id server = option_map (λ row. row.def) (find (λ row. same_set id row.def.id) server.targets)
