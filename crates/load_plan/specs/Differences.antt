-- Which definitions of a text stand already with other contents.
use Rattle.std.specs.Prelude.{ℕ, Bool, false, ◌&&◌, ◌||◌, not, List, find, Option}
use Rattle.std.specs.List.{AllByRecursion, list_any}
use Rattle.std.specs.Option.{option_map, option_map_or, option_or}
use Rattle.std.specs.Str.{bytes_eq}
use Rattle.repl_types.specs.declared.refusal.ItemName.{ItemName}
use Rattle.repl_types.specs.declared.refusal.ItemName.TheVariants as items
use Rattle.row_codec.specs.Definitions.{table_spelling, HasTableSpelling, registration_spelling, HasRegistrationSpelling}
use Rattle.repl_definitions.specs.Sets.{set_def_spelling, HasSetDefSpelling}
use Rattle.repl_definitions.specs.declared.set.SetDef.{SetDef}
use Rattle.spelled_defs.specs.declared.defs.Defs.{Defs}
use Rattle.spelled_defs.specs.declared.defs.TableAt.{TableAt}
use Rattle.spelled_defs.specs.declared.defs.RegistrationAt.{RegistrationAt}
use Rattle.load_plan.specs.Stored.{table_at, registration_at, source_at, target_at}
use Rattle.load_plan.specs.declared.stored.StoredServer.{StoredServer}

-- what stands under the name of a definition, if something does, is spelled by other bytes
abbrev pub differs : {X : Type 0} → (X → List ℕ) → X → Option X → Bool
differs spelling def stored = option_map_or (λ other. not (bytes_eq (spelling def) (spelling other))) stored false

-- a table of a text differs from that of its name at its server
abbrev pub table_differs : List StoredServer → TableAt → Bool
table_differs stored t = list_any (λ server. bytes_eq t.server server.name && differs table_spelling t.def (table_at t.def.name server)) stored

-- a registration of a text differs from that of its table at its server
abbrev pub registration_differs : List StoredServer → RegistrationAt → Bool
registration_differs stored r = list_any (λ server. bytes_eq r.server server.name && differs registration_spelling r.def (registration_at r.def.table server)) stored

-- a set of a text differs from one of its name at any server, whose source or target that is
abbrev pub set_differs : List StoredServer → SetDef → Bool
set_differs stored def = list_any (λ server. differs set_def_spelling def (source_at def.id server) || differs set_def_spelling def (target_at def.id server)) stored

-- the first definition of a text that differs: tables come first, then registrations, then sets
abbrev pub first_difference : Defs → List StoredServer → Option ItemName
first_difference defs stored =
    option_or (option_map (λ t. items.Table t.server t.def.name) (find (table_differs stored) defs.tables))
    (option_or (option_map (λ r. items.Registration r.server r.def.table) (find (registration_differs stored) defs.registrations))
    (option_map (λ def. items.Set def.id) (find (set_differs stored) defs.sets)))

-- ---- spellings

-- The definitions of a text have spellings.
pub record AreSpelled (defs : Defs) : Type 0 where
  pub tables : AllByRecursion (λ t. HasTableSpelling t.def) defs.tables
  pub registrations : AllByRecursion (λ r. HasRegistrationSpelling r.def) defs.registrations
  pub sets : AllByRecursion HasSetDefSpelling defs.sets

-- What a server keeps of definitions has spellings.
pub record IsSpelledServer (server : StoredServer) : Type 0 where
  pub tables : AllByRecursion (λ row. HasTableSpelling row.def) server.tables
  pub registrations : AllByRecursion (λ row. HasRegistrationSpelling row.registration) server.registrations
  pub sources : AllByRecursion (λ row. HasSetDefSpelling row.def) server.sources
  pub targets : AllByRecursion (λ row. HasSetDefSpelling row.def) server.targets
