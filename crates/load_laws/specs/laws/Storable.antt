-- What a load of a text that keeps the rules adds can be stored.
use Rattle.std.proofs.Common.{◌≡◌, ℕ, ◌+◌, ◌*◌, ◌≤◌, Bool, false, ◌||◌, List, [], ◌∷◌, ◌++◌, length, map, Option, Some, None, arith, find, filter, nat_lt, IfSome, option_map, bytes_eq, length-append}
use Rattle.std.specs.List.{AllByRecursion, flat_map, enumerate_from}
use Rattle.std.proofs.lemmas.Bool.{ltb-false, not-true, or_parts}
use Rattle.repl_model.specs.Words.{value_limit, Registration, ColumnDef, Kind, TableDef, all_filter, all_weaker, defined_table_spelling, HasDefinedTableSpelling, defined_registration_spelling, HasDefinedRegistrationSpelling, set_def_spelling, HasSetDefSpelling, source_set_spelling, HasSourceSetSpelling, target_set_spelling, HasTargetSetSpelling, DefinedTable, SetDef, at_one, at_each, each_given, each_image, all_numbered, chosen_none}
use Rattle.world_store.specs.Words.{places_spelling, kind_spelling, column_spelling, IsColumn, table_spelling, registration_spelling, HasRegistrationSpelling, b16, b32, flag, short_text, list_spelling, IsStorable, table_again, length16, length32, name_length, length_flag}
use Rattle.repl_types.specs.declared.table.Kind.TheVariants.{Int, Text}
use Rattle.spelled_defs.specs.declared.defs.Defs.{Defs}
use Rattle.spelled_defs.specs.declared.defs.RegistrationAt.{RegistrationAt}
use Rattle.spelled_defs.specs.declared.defs.TableAt.{TableAt}
use Rattle.load_plan.specs.Additions.{gets_registration, numbered_registration, additions_at, tables_added}
use Rattle.load_plan.specs.Differences.{AreSpelled}
use Rattle.load_plan.specs.Limits.{gets_table, gets_source, gets_target}
use Rattle.load_plan.specs.Refusals.{has_long_set, has_long_registration, content_refusal}
use Rattle.load_plan.specs.declared.stored.StoredServer.{StoredServer}
use Rattle.load_laws.specs.texts.AcceptedTexts.{AreStorable, StoresAdditions}
use Rattle.load_laws.specs.texts.Texts.{defs_beside}
use Rattle.load_laws.specs.laws.Counts.{each_fails}
use Rattle.load_laws.specs.laws.Spelled.{are_spelled}
use Rattle.load_laws.specs.laws.Typed.{IsSmallTable, text_tables}

-- ---- lengths of tables

-- spellings of at most so many bytes take together at most as often so many as there are
flat_length : {X : Type 0} (spelling : X → List ℕ) (most : ℕ) (xs : List X) → AllByRecursion (λ x. length (spelling x) ≤ most) xs → length (flat_map spelling xs) ≤ most * length xs
flat_length spelling most [] all = omega arith
flat_length spelling most (x ∷ xs) all = omega (arith, length-append (spelling x) (flat_map spelling xs), all.0, flat_length spelling most xs all.1)

-- so does a list, and two bytes for its count
list_length : {X : Type 0} (spelling : X → List ℕ) (most : ℕ) (xs : List X) → AllByRecursion (λ x. length (spelling x) ≤ most) xs → length (list_spelling spelling xs) ≤ 2 + most * length xs
list_length spelling most xs all = omega (arith, length-append (b16 (length xs)) (flat_map spelling xs), length16 (length xs), flat_length spelling most xs all)

-- places take two bytes each, and two for their count
places_length : (ps : List ℕ) → length (places_spelling ps) ≤ 2 + 2 * length ps
places_length ps = list_length b16 2 ps (at_each (λ p. length (b16 p) ≤ 2) ps (λ p i. omega (arith, length16 p)))

-- a kind takes a byte
kind_length : (kind : Kind) → length (kind_spelling kind) ≤ 1
kind_length Int = omega arith
kind_length Text = omega arith

-- a column takes at most 35 bytes
column_length : (column : ColumnDef) → IsColumn column → length (column_spelling column) ≤ 35
column_length column is = omega (arith, length-append (short_text column.name ++ kind_spelling column.kind) (flag column.nullable), length-append (short_text column.name) (kind_spelling column.kind), name_length column.name is.0, kind_length column.kind, length_flag column.nullable)

-- a table of few columns may be stored after its number
table_storable : (number : ℕ) (def : TableDef) → IsSmallTable def → IsStorable HasDefinedTableSpelling defined_table_spelling (record { number = number; def = def })
table_storable number def small = (
  table_again def small.is,
  omega (
    arith,
    length-append (b32 number) (table_spelling def),
    length32 number,
    length-append (short_text def.name ++ list_spelling column_spelling def.columns ++ places_spelling def.key) (places_spelling def.fixed),
    length-append (short_text def.name ++ list_spelling column_spelling def.columns) (places_spelling def.key),
    length-append (short_text def.name) (list_spelling column_spelling def.columns),
    name_length def.name small.is.0,
    list_length column_spelling 35 def.columns (all_weaker IsColumn (λ column. length (column_spelling column) ≤ 35) def.columns column_length small.is.1.1),
    places_length def.key,
    places_length def.fixed,
    small.columns,
    small.key,
    small.fixed,
  ),
)

-- ---- definitions that aren't too long

-- a set has a spelling that isn't too long after a number of four bytes
abbrev IsShortSet : SetDef → Type 0
IsShortSet def = HasSetDefSpelling def × (length (set_def_spelling def) + 4 ≤ value_limit)

-- a registration has such a spelling
abbrev IsShortRegistration : Registration → Type 0
IsShortRegistration r = HasRegistrationSpelling r × (length (registration_spelling r) + 4 ≤ value_limit)

-- bytes that aren't too long after a number of four bytes may be stored after one
after_number : (number : ℕ) (bytes : List ℕ) → length bytes + 4 ≤ value_limit → length (b32 number ++ bytes) ≤ value_limit
after_number number bytes short = omega (arith, length-append (b32 number) bytes, length32 number, short)

-- no set and no registration of a text that isn't refused is too long
not_long : (defs : Defs) (stored : List StoredServer) → content_refusal defs stored ≡ None → (has_long_set defs ≡ false) × (has_long_registration defs ≡ false)
not_long defs stored none = or_parts (has_long_set defs) (has_long_registration defs) (not-true (has_long_set defs || has_long_registration defs) (chosen_none (has_long_set defs || has_long_registration defs) _ _ none).0)

-- ---- rows that are added

-- what holds of a row of each element, whatever its number, holds of the rows of the elements that a filter keeps
numbered_rows : {X Y : Type 0} (P : X → Type 0) (Q : Y → Type 0) (row : ℕ × X → Y) (n : ℕ) (gets : X → Bool) (xs : List X) → ((number : ℕ) (x : X) → P x → Q (row (number, x))) → AllByRecursion P xs → AllByRecursion Q (map row (enumerate_from n (filter gets xs)))
numbered_rows P Q row n gets xs fits all = each_image Q row (enumerate_from n (filter gets xs)) (all_numbered P (λ x. Q (row x)) (n + length (filter gets xs)) n (filter gets xs) (omega arith) (all_filter P gets xs all) (λ number x lt p. fits number x p))

-- a registration that isn't too long may be stored after its table's number, if it gets one
numbered_fits : (tables : List DefinedTable) (r : RegistrationAt) → IsShortRegistration r.def → IfSome (numbered_registration tables r) (IsStorable HasDefinedRegistrationSpelling defined_registration_spelling)
numbered_fits tables r short = by_row (find (λ row. bytes_eq r.def.table row.def.name) tables)
  where
    by_row : (o : Option DefinedTable) → IfSome (option_map (λ row. record { number = row.number; registration = r.def }) o) (IsStorable HasDefinedRegistrationSpelling defined_registration_spelling)
    by_row None = tt
    by_row (Some row) = (short.0, after_number row.number (registration_spelling r.def) short.1)

module _ (defs : Defs) (stored : List StoredServer) (spelled : AreSpelled defs) (none : content_refusal defs stored ≡ None) where
  -- the sets of a text that isn't refused aren't too long
  short_sets : AllByRecursion IsShortSet defs.sets
  short_sets = at_each IsShortSet defs.sets (λ def i. (at_one HasSetDefSpelling defs.sets def spelled.sets i, ltb-false value_limit (length (set_def_spelling def) + 4) (each_fails (λ (d : SetDef). nat_lt value_limit (length (set_def_spelling d) + 4)) defs.sets (not_long defs stored none).0 def i)))

  -- nor are its registrations
  short_registrations : AllByRecursion (λ r. IsShortRegistration r.def) defs.registrations
  short_registrations = at_each (λ (r : RegistrationAt). IsShortRegistration r.def) defs.registrations (λ r i. (at_one (λ (a : RegistrationAt). HasRegistrationSpelling a.def) defs.registrations r spelled.registrations i, ltb-false value_limit (length (registration_spelling r.def) + 4) (each_fails (λ (a : RegistrationAt). nat_lt value_limit (length (registration_spelling a.def) + 4)) defs.registrations (not_long defs stored none).1 r i)))

  -- what a server gets can be stored, if the tables of the text have few columns
  added_storable : AllByRecursion (λ t. IsSmallTable t.def) defs.tables → (server : StoredServer) → AreStorable (additions_at defs server)
  added_storable small server = record {
    tables = numbered_rows (λ (t : TableAt). IsSmallTable t.def) (IsStorable HasDefinedTableSpelling defined_table_spelling) (λ (t : ℕ × TableAt). record { number = t.0; def = t.1.def }) (length server.tables) (gets_table server) defs.tables (λ number t fits. table_storable number t.def fits) small;
    registrations = each_given (IsStorable HasDefinedRegistrationSpelling defined_registration_spelling) (numbered_registration (server.tables ++ tables_added defs server)) (filter (gets_registration server) defs.registrations)
        (all_weaker (λ (r : RegistrationAt). IsShortRegistration r.def) (λ r. IfSome (numbered_registration (server.tables ++ tables_added defs server) r) (IsStorable HasDefinedRegistrationSpelling defined_registration_spelling)) (filter (gets_registration server) defs.registrations) (numbered_fits (server.tables ++ tables_added defs server))
        (all_filter (λ (r : RegistrationAt). IsShortRegistration r.def) (gets_registration server) defs.registrations short_registrations));
    sources = numbered_rows IsShortSet (IsStorable HasSourceSetSpelling source_set_spelling) (λ (s : ℕ × SetDef). record { number = s.0; def = s.1 }) (length server.sources) (gets_source server) defs.sets (λ number def short. (short.0, after_number number (set_def_spelling def) short.1)) short_sets;
    targets = numbered_rows IsShortSet (IsStorable HasTargetSetSpelling target_set_spelling) (λ (s : ℕ × SetDef). record { number = s.0; def = s.1 }) (length server.targets) (gets_target server) defs.sets (λ number def short. (short.0, after_number number (set_def_spelling def) short.1)) short_sets;
  }

-- what servers get can be stored
pub stores_additions : StoresAdditions
stores_additions raw stored keeps none = at_each (λ (server : StoredServer). AreStorable (additions_at (defs_beside raw stored) server)) stored (λ server i.
    added_storable (defs_beside raw stored) stored (are_spelled raw stored keeps) none (text_tables raw stored keeps) server)
