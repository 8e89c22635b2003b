-- The rows of the area Defs that a sound world calls for: proofs, and nothing to believe.
use Rattle.std.proofs.Common.{◌≡◌, ℕ, ◌+◌, ◌<◌, ◌≤◌, ◌^◌, Bool, true, false, List, ◌∷◌, ◌++◌, length, map, refl, ap, subst, ◌∙◌, arith, ◌&&◌, ◌==◌, not, nat_lt, Option, Some, None, IfSome, slice_get, is_eq, bytes_eq, Ordering}
use Rattle.std.specs.List.{AllByRecursion, enumerate_from, filter_map, list_all}
use Rattle.std.specs.Option.{option_map, option_map_or}
use Rattle.std.proofs.lemmas.List.{length-map}
use Rattle.std.proofs.lemmas.List.FromFn.{length-enumerate_from}
use Rattle.std.proofs.lemmas.Option.{slice_get_within}
use Rattle.std.proofs.lemmas.Bool.{and_parts}
use Rattle.repl_model.specs.Words.{bytes_cmp, is_name, SetId, ColumnDef, TableDef, Registration, all_weaker, IsDefinedTable, IsDefinedRegistration, IsSourceSet, IsTargetSet, SourceSet, TargetSet, DefinedTable, DefinedRegistration, all_places, may_be_key, RegistrationKeepsRules, all_differ, are_among, places_rise, by_key, KeepsTable, ServerKeepsRules, SetKeepsLimits, UnknownSource, UnknownTarget, Registered, ServerTable, SourceSide, TargetSide, Server, World, same_set, name_itself, same_name, alike, all_pass, filter_map_few, all_numbered, among_first, among_below, distinct_few, rising_few, each_image, each_given}
use Rattle.row_codec.specs.Definitions.{IsColumn, IsTable, ArePlaces, IsRegistration}
use Rattle.row_codec.specs.Order.{name_cmp, set_cmp}
use Rattle.row_codec.specs.Spelling.{Is16, Is32, IsName, IsSet, short_text, set_spelling}
use Rattle.row_codec.specs.laws.Orders.{whole_order, order_name, order_set}
use Rattle.rows_in_order.specs.laws.Rising.{same_itself, same_is}
use Rattle.world_store.specs.DefinitionRows.{numbered_tables, table_rows, defined_registration, registration_rows, source_set_rows, target_set_rows}
use Rattle.world_store.specs.SpelledRows.{RowFits, AreRows, definition_limit}
use Rattle.world_store.specs.laws.ByKey.{by_key_rises, by_key_fits, by_key_few}
use Rattle.row_codec.specs.laws.Numbers.{same_prefixes}

-- ---- rows by their keys

-- entries of which no key is spelled by nothing are rows, in the order of their keys
are_by_key : {K X : Type 0} (key_fits : K → Type 0) (key : K → List ℕ) (fits : X → Type 0) (cmp : K → K → Ordering) → ((x y : K) → key_fits x → key_fits y → bytes_cmp (key x) (key y) ≡ cmp x y) → ((k : K) → 0 < length (key k)) → (entries : List (K × X)) → AllByRecursion (RowFits key_fits fits) entries → length entries ≤ definition_limit → AreRows key_fits key fits (by_key cmp entries)
are_by_key {K} {X} key_fits key fits cmp in_order some entries all few = record {
  rise = by_key_rises key key_fits fits cmp in_order entries all;
  fit = by_key_fits key key_fits fits cmp in_order entries all;
  some = all_weaker (RowFits key_fits fits) (λ row. 0 < length (key row.0)) (by_key cmp entries) (λ row _. some row.0) (by_key_fits key key_fits fits cmp in_order entries all);
  few = omega (arith, by_key_few key key_fits fits cmp in_order entries, few);
}

-- names are spelled by something
name_some : (name : List ℕ) → 0 < length (short_text name)
name_some name = omega arith

-- and so are names of sets
set_some : (id : SetId) → 0 < length (set_spelling id)
set_some id = omega arith

-- byte order of names
name_order : (x y : List ℕ) → IsName x → IsName y → bytes_cmp (short_text x) (short_text y) ≡ name_cmp x y
name_order = whole_order IsName short_text name_cmp order_name

-- byte order of names of sets
set_order : (x y : SetId) → IsSet x → IsSet y → bytes_cmp (set_spelling x) (set_spelling y) ≡ set_cmp x y
set_order = whole_order IsSet set_spelling set_cmp order_set

-- ---- tables and registrations

-- places below a number of two bytes, and no more of them than it, have spellings
pub are_places : (n : ℕ) (ps : List ℕ) → n < 2 ^ 16 → length ps ≤ n → AllByRecursion (λ p. p < n) ps → ArePlaces ps
are_places n ps small few all = (omega (arith, few, small), all_weaker (λ p. p < n) Is16 ps (λ p lt. omega arith) all)

-- a place at which a column may be in the key is one of a column
key_place : (def : TableDef) (p : ℕ) → may_be_key def p ≡ true → p < length def.columns
key_place def p e = pick (slice_get def.columns p) refl e
  where
    pick : (o : Option ColumnDef) → slice_get def.columns p ≡ o → option_map_or (λ column. not column.nullable) o false ≡ true → p < length def.columns
    pick None is e = absurd cc
    pick (Some column) is e = slice_get_within def.columns p column is

-- a table that keeps the rules has a name
table_name : (t : ServerTable) → KeepsTable t → IsName t.def.name
table_name t keeps = (and_parts (is_name t.def.name) (list_all (λ (column : ColumnDef). is_name column.name) t.def.columns) keeps.0.names).0

-- and a spelling
table_fits : (t : ServerTable) → KeepsTable t → IsTable t.def
table_fits t keeps =
    let def = t.def in
    let n = length def.columns in
    let few : n ≤ 64 = keeps.1 in
    let counted : n < 2 ^ 16 = omega (arith, few) in
    let names = and_parts (is_name def.name) (list_all (λ (column : ColumnDef). is_name column.name) def.columns) keeps.0.names in
    let differ = and_parts (all_differ (λ (a b : ColumnDef). bytes_eq a.name b.name) def.columns && all_differ ◌==◌ def.key) (all_differ ◌==◌ def.fixed) keeps.0.differ in
    let keys_differ = and_parts (all_differ (λ (a b : ColumnDef). bytes_eq a.name b.name) def.columns) (all_differ ◌==◌ def.key) differ.0 in
    let places = and_parts (nat_lt 0 (length def.key) && list_all (may_be_key def) def.key) (are_among (all_places def) def.fixed) keeps.0.key in
    let keys = and_parts (nat_lt 0 (length def.key)) (list_all (may_be_key def) def.key) places.0 in
    let key_below = all_weaker (λ p. may_be_key def p ≡ true) (λ p. p < n) def.key (key_place def) (all_pass (may_be_key def) def.key keys.1) in
    let fixed_below = among_first n def.fixed places.1 in
    (names.0, (counted, all_weaker (λ (column : ColumnDef). is_name column.name ≡ true) IsColumn def.columns (λ column name. (name, tt, tt)) (all_pass (λ (column : ColumnDef). is_name column.name) def.columns names.1)), are_places n def.key counted (distinct_few n def.key keys_differ.1 key_below) key_below, are_places n def.fixed counted (distinct_few n def.fixed differ.1 fixed_below) fixed_below)

-- so has its registration
registration_fits : (t : ServerTable) (reg : Registration) → KeepsTable t → RegistrationKeepsRules t.def reg → IsRegistration reg
registration_fits t reg keeps rules =
    let def = t.def in
    let n = length def.columns in
    let few : n ≤ 64 = keeps.1 in
    let counted : n < 2 ^ 16 = omega (arith, few) in
    let after = and_parts (places_rise reg.after && are_among (all_places def) reg.after) (are_among reg.after def.key) rules.after in
    let rising = and_parts (places_rise reg.after) (are_among (all_places def) reg.after) after.0 in
    let before = and_parts (places_rise reg.before) (are_among reg.after reg.before) rules.before in
    let after_below = among_first n reg.after rising.1 in
    let before_below = among_below n reg.after reg.before after_below before.1 in
    (ap is_name rules.table ∙ table_name t keeps, are_places n reg.after counted (rising_few n reg.after rising.0 after_below) after_below, are_places n reg.before counted (rising_few n reg.before before.0 before_below) before_below, tt, tt, tt)

-- ---- names, and names of sets

-- the first of two equal lists that aren't empty, and what follows
pub head_is : (j k : ℕ) (x y : List ℕ) → ◌≡◌ {A = List ℕ} (j ∷ x) (k ∷ y) → j ≡ k
head_is j k x y e = cc

pub tail_is : (j k : ℕ) (x y : List ℕ) → ◌≡◌ {A = List ℕ} (j ∷ x) (k ∷ y) → x ≡ y
tail_is j k x y e = cc

-- names that are spelled alike are one
pub name_one : (a b : List ℕ) → short_text a ≡ short_text b → a ≡ b
name_one a b e = tail_is (length a) (length b) a b e

-- names of sets have one spelling each
pub set_one : (a b : SetId) → set_spelling a ≡ set_spelling b → a ≡ b
set_one a b e =
    let long = head_is (length a.qual) (length b.qual) (a.qual ++ length a.name ∷ a.name) (b.qual ++ length b.name ∷ b.name) e in
    let parts = same_prefixes a.qual b.qual (length a.name ∷ a.name) (length b.name ∷ b.name) long (tail_is (length a.qual) (length b.qual) (a.qual ++ length a.name ∷ a.name) (b.qual ++ length b.name ∷ b.name) e) in
    let names = tail_is (length a.name) (length b.name) a.name b.name parts.1 in
    λ i. record { qual = parts.0 i; name = names i }

-- names of sets are alike if and only if their spellings are
pub set_alike : (a b : SetId) → is_eq (bytes_cmp (set_spelling a) (set_spelling b)) ≡ same_set a b
set_alike a b = alike (is_eq (bytes_cmp (set_spelling a) (set_spelling b))) (same_set a b) there back
  where
    pass : (x y : Bool) → x ≡ true → y ≡ true → (x && y) ≡ true
    pass true y e f = f
    pass false y e f = absurd cc

    there : is_eq (bytes_cmp (set_spelling a) (set_spelling b)) ≡ true → same_set a b ≡ true
    there e = subst (λ (s : SetId). same_set a s ≡ true) (set_one a b (same_is (set_spelling a) (set_spelling b) e)) (pass (bytes_eq a.qual a.qual) (bytes_eq a.name a.name) (name_itself a.qual) (name_itself a.name))

    back : same_set a b ≡ true → is_eq (bytes_cmp (set_spelling a) (set_spelling b)) ≡ true
    back e =
        let both = and_parts (bytes_eq a.qual b.qual) (bytes_eq a.name b.name) e in
        let quals = same_name a.qual b.qual both.0 in
        let names = same_name a.name b.name both.1 in
        subst (λ (s : List ℕ). is_eq (bytes_cmp (set_spelling a) s) ≡ true) (λ i. short_text (quals i) ++ short_text (names i)) (same_itself (set_spelling a))

-- ---- entries

-- a table under its name
abbrev table_entry : ℕ × ServerTable → List ℕ × DefinedTable
table_entry t = (t.1.def.name, record { number = t.0; def = t.1.def })

-- a registration under its table's name
abbrev registration_entry : ℕ → ServerTable → Registered → List ℕ × DefinedRegistration
registration_entry m t r = (t.def.name, record { number = m; registration = r.reg })

-- a set under its name at its source
abbrev source_entry : ℕ × SourceSide → SetId × SourceSet
source_entry s = (s.1.def.id, record { number = s.0; def = s.1.def })

-- and at its target
abbrev target_entry : ℕ × TargetSide → SetId × TargetSet
target_entry s = (s.1.def.id, record { number = s.0; def = s.1.def })

-- numbers of tables and of sets have four bytes
small : (n : ℕ) → n < 256 → Is32 n
small n lt = omega arith

-- the entry of a registration has a spelling
registered_fits : (m : ℕ) (t : ServerTable) → m < 256 → KeepsTable t → IfSome (defined_registration (m, t)) (RowFits IsName IsDefinedRegistration)
registered_fits m t lt keeps = pick t.registered keeps.2
  where
    pick : (o : Option Registered) → IfSome o (λ r. RegistrationKeepsRules t.def r.reg) → IfSome (option_map (λ (r : Registered). registration_entry m t r) o) (RowFits IsName IsDefinedRegistration)
    pick None h = tt
    pick (Some r) h = (table_name t keeps, (small m lt, registration_fits t r.reg keeps h))

-- ---- the rows of a server

module _ (world : World) (server : Server) (keeps : ServerKeepsRules world server) where
  -- its tables
  pub table_rows_are : AreRows IsName short_text IsDefinedTable (table_rows server)
  table_rows_are = are_by_key IsName short_text IsDefinedTable name_cmp name_order name_some (map table_entry (numbered_tables server))
      (each_image (RowFits IsName IsDefinedTable) table_entry (numbered_tables server) (all_numbered KeepsTable (λ t. RowFits IsName IsDefinedTable (table_entry t)) 256 0 server.tables (omega (arith, keeps.count)) keeps.tables (λ m t lt k. (table_name t k, (small m lt, table_fits t k)))))
      (omega (arith, length-map (numbered_tables server) table_entry, length-enumerate_from 0 server.tables, keeps.count))

  -- its registrations
  pub registration_rows_are : AreRows IsName short_text IsDefinedRegistration (registration_rows server)
  registration_rows_are = are_by_key IsName short_text IsDefinedRegistration name_cmp name_order name_some (filter_map defined_registration (numbered_tables server))
      (each_given (RowFits IsName IsDefinedRegistration) defined_registration (numbered_tables server) (all_numbered KeepsTable (λ t. IfSome (defined_registration t) (RowFits IsName IsDefinedRegistration)) 256 0 server.tables (omega (arith, keeps.count)) keeps.tables registered_fits))
      (omega (arith, filter_map_few defined_registration (numbered_tables server), length-enumerate_from 0 server.tables, keeps.count))

  -- what is kept of the sets whose source it is has a spelling
  source_entries_fit : AllByRecursion (RowFits IsSet IsSourceSet) (map source_entry (enumerate_from 0 server.source_sets))
  source_entries_fit = each_image (RowFits IsSet IsSourceSet) source_entry (enumerate_from 0 server.source_sets) (all_numbered (λ side. (side.def.source ≡ server.name) × SetKeepsLimits world side.def × UnknownSource world server side) (λ s. RowFits IsSet IsSourceSet (source_entry s)) 256 0 server.source_sets (omega (arith, keeps.counts.0)) keeps.sources (λ m side lt k. (k.1.spelled.0, (small m lt, k.1.spelled))))

  -- the sets whose source it is
  pub source_rows_are : AreRows IsSet set_spelling IsSourceSet (source_set_rows server)
  source_rows_are = are_by_key IsSet set_spelling IsSourceSet set_cmp set_order set_some (map source_entry (enumerate_from 0 server.source_sets)) source_entries_fit
      (omega (arith, length-map (enumerate_from 0 server.source_sets) source_entry, length-enumerate_from 0 server.source_sets, keeps.counts.0))

  -- the sets whose target it is
  pub target_rows_are : AreRows IsSet set_spelling IsTargetSet (target_set_rows server)
  target_rows_are = are_by_key IsSet set_spelling IsTargetSet set_cmp set_order set_some (map target_entry (enumerate_from 0 server.target_sets))
      (each_image (RowFits IsSet IsTargetSet) target_entry (enumerate_from 0 server.target_sets) (all_numbered (λ side. (side.def.target ≡ server.name) × SetKeepsLimits world side.def × UnknownTarget world server side) (λ s. RowFits IsSet IsTargetSet (target_entry s)) 256 0 server.target_sets (omega (arith, keeps.counts.1)) keeps.targets (λ m side lt k. (k.1.spelled.0, (small m lt, k.1.spelled)))))
      (omega (arith, length-map (enumerate_from 0 server.target_sets) target_entry, length-enumerate_from 0 server.target_sets, keeps.counts.1))
