-- The tables and the registrations of a text that keeps the rules are made of names, and of places of two bytes.
use Rattle.std.proofs.Common.{◌≡◌, ℕ, ◌<◌, ◌≤◌, ◌^◌, true, List, [], length, Option, Some, None, refl, sym, ap, subst, ◌∙◌, arith, find, unwrap_or}
use Rattle.std.specs.List.{AllByRecursion, filter_map, range_with_len}
use Rattle.std.specs.Option.{option_map_or}
use Rattle.std.proofs.lemmas.Bool.{and_parts}
use Rattle.world_store.specs.Words.{ArePlaces, IsColumn, IsTable, HasTableSpelling, IsRegistration, HasRegistrationSpelling, IsCounted, are_places}
use Rattle.repl_model.specs.Words.{is_name, ColumnDef, TableDef, all_append, all_filter, all_weaker, DefinedRegistration, DefinedTable, places_rise, column_limit, In, at_one, at_each, found_in, in_filter_map, in_flat_map, in_map, distinct_few, rising_few}
use Rattle.repl_commands.specs.declared.written.RawDefs.{RawDefs}
use Rattle.repl_commands.specs.declared.written.RawRegistration.{RawRegistration}
use Rattle.repl_commands.specs.declared.written.RawTable.{RawTable}
use Rattle.spelled_defs.specs.Context.{context_of, is_other_table, is_other_registration}
use Rattle.spelled_defs.specs.Spelled.{spelled_column, table_def, spelled_table, column_place, column_places, is_table, columns_at, after_places, named_places, spelled_registration}
use Rattle.spelled_defs.specs.declared.context.Context.{Context}
use Rattle.spelled_defs.specs.declared.defs.RegistrationAt.{RegistrationAt}
use Rattle.spelled_defs.specs.declared.defs.TableAt.{TableAt}
use Rattle.checked_defs.specs.Broken.{all_rules, first_broken}
use Rattle.checked_defs.specs.Rules.{texts_differ, table_stands_once}
use Rattle.load_laws.specs.rules.laws.Items.{column_spelled, table_spelled, table_named, registration_spelled, registration_named}
use Rattle.load_laws.specs.rules.laws.Kept.{once_kept}
use Rattle.load_laws.specs.rules.laws.Places.{places_apart, place_within, named_rise, named_within, range_rises, range_within}
use Rattle.load_plan.specs.Differences.{IsSpelledServer}
use Rattle.load_plan.specs.declared.stored.StoredServer.{StoredServer}
use Rattle.load_laws.specs.planned.Planned.{known_stored}
use Rattle.load_laws.specs.texts.AcceptedTexts.{TypesItems}
use Rattle.load_laws.specs.texts.Texts.{defs_beside, KeepsRules}
use Rattle.load_laws.specs.laws.Counts.{table_columns}

-- ---- tables

-- the places of names are those of columns
places_below : (columns : List ColumnDef) (names : List (List ℕ)) → AllByRecursion (λ p. p < length columns) (column_places columns names)
places_below columns names = at_each (λ p. p < length columns) (column_places columns names) (λ p i. let of = in_filter_map (column_place columns) names p i in place_within columns of.0 p of.2)

-- the places of names that differ are no more than the columns
places_few : (columns : List ColumnDef) (names : List (List ℕ)) → texts_differ names ≡ true → length (column_places columns names) ≤ length columns
places_few columns names differ = distinct_few (length columns) (column_places columns names) (places_apart columns names differ) (places_below columns names)

-- A table of few columns, with no more places in its key and among the fixed ones.
pub record IsSmallTable (def : TableDef) : Type 0 where
  pub is : IsTable def
  pub columns : length def.columns ≤ column_limit
  pub key : length def.key ≤ length def.columns
  pub fixed : length def.fixed ≤ length def.columns

-- the table that an item spells is such a table, if nothing stands twice in it and its columns are few
small_table : (raw : RawDefs) (context : Context) (item : RawTable) → is_name item.name ≡ true → table_stands_once raw context item ≡ true → length (filter_map spelled_column item.columns) ≤ column_limit → IsSmallTable (table_def item.name (filter_map spelled_column item.columns) item)
small_table raw context item name once few = record {
  is = (name, (counted, at_each IsColumn columns (λ c i. let of = in_filter_map spelled_column item.columns c i in ((column_spelled of.0 c of.2).1, tt, tt))), are_places n (column_places columns item.key) counted key_few (places_below columns item.key), are_places n (column_places columns fixed) counted fixed_few (places_below columns fixed));
  columns = few;
  key = key_few;
  fixed = fixed_few;
}
  where
    columns : List ColumnDef
    columns = filter_map spelled_column item.columns

    fixed : List (List ℕ)
    fixed = unwrap_or item.fixed []

    n : ℕ
    n = length columns

    counted : n < 2 ^ 16
    counted = omega (arith, few)

    key_few : length (column_places columns item.key) ≤ n
    key_few = places_few columns item.key (and_parts _ (texts_differ item.key) (and_parts _ _ (and_parts _ _ once).0).0).1

    fixed_few : length (column_places columns fixed) ≤ n
    fixed_few = places_few columns fixed (and_parts _ (texts_differ fixed) (and_parts _ _ once).0).1

-- so are the tables of a text that breaks no rule, if the columns of each are few
pub small_tables : (raw : RawDefs) (context : Context) → first_broken raw context all_rules ≡ None → AllByRecursion (λ t. length t.def.columns ≤ column_limit) (filter_map spelled_table raw.tables) → AllByRecursion (λ t. IsSmallTable t.def) (filter_map spelled_table raw.tables)
small_tables raw context kept few = at_each (λ (t : TableAt). IsSmallTable t.def) (filter_map spelled_table raw.tables) (λ t i.
    let of = in_filter_map spelled_table raw.tables t i in
    let spelled = table_spelled of.0 t of.2 in
    subst (λ (a : TableAt). IsSmallTable a.def) (sym spelled)
    (small_table raw context of.0 (sym (ap (λ (a : TableAt). is_name a.def.name) spelled) ∙ table_named of.0 t of.2) (once_kept raw context kept of.0 of.1)
    (subst (λ (a : TableAt). length a.def.columns ≤ column_limit) spelled (at_one (λ (a : TableAt). length a.def.columns ≤ column_limit) (filter_map spelled_table raw.tables) t few i))))

-- ---- registrations

-- places that rise among the columns of a table have spellings, if the number of columns has two bytes
rising_places : (n : ℕ) (ps : List ℕ) → n < 2 ^ 16 → places_rise ps ≡ true → ((p : ℕ) → In p ps → p < n) → ArePlaces ps
rising_places n ps counted rise within = let below = at_each (λ p. p < n) ps within in are_places n ps counted (rising_few n ps rise below) below

-- so have the places of the columns whose after-images are kept
after_images : (columns : List ColumnDef) (names : Option (List (List ℕ))) → IsCounted columns → ArePlaces (after_places columns names)
after_images columns None counted = rising_places (length columns) (range_with_len 0 (length columns)) counted (range_rises 0 (length columns)) (λ p i. let high = (range_within 0 (length columns) p i).1 in omega arith)
after_images columns (Some names) counted = rising_places (length columns) (named_places names 0 columns) counted (named_rise names 0 columns) (named_within names columns)

-- the columns of the table of a name are counted, if those of each table are
columns_counted : (tables : List TableAt) (server name : List ℕ) → AllByRecursion (λ t. IsCounted t.def.columns) tables → IsCounted (columns_at tables server name)
columns_counted tables server name all = by_found (find (is_table server name) tables) refl
  where
    by_found : (o : Option TableAt) → find (is_table server name) tables ≡ o → IsCounted (option_map_or (λ (t : TableAt). t.def.columns) o [])
    by_found None e = omega arith
    by_found (Some t) e = at_one (λ (t : TableAt). IsCounted t.def.columns) tables t all (found_in (is_table server name) tables t e).0

-- the registrations that items spell are made of names and places, if the columns of each table are counted
pub typed_registrations : (tables : List TableAt) (items : List RawRegistration) → AllByRecursion (λ t. IsCounted t.def.columns) tables → AllByRecursion (λ r. IsRegistration r.def) (filter_map (spelled_registration tables) items)
typed_registrations tables items all = at_each (λ (r : RegistrationAt). IsRegistration r.def) (filter_map (spelled_registration tables) items) (λ r i.
    let of = in_filter_map (spelled_registration tables) items r i in
    let columns = columns_at tables of.0.server of.0.table in
    let counted = columns_counted tables of.0.server of.0.table all in
    let places : ArePlaces (after_places columns of.0.after) × ArePlaces (named_places (unwrap_or of.0.before []) 0 columns) = (after_images columns of.0.after counted, rising_places (length columns) (named_places (unwrap_or of.0.before []) 0 columns) counted (named_rise (unwrap_or of.0.before []) 0 columns) (named_within (unwrap_or of.0.before []) columns)) in
    let has = subst (λ (a : RegistrationAt). ArePlaces a.def.after × ArePlaces a.def.before) (sym (registration_spelled tables of.0 r of.2)) places in
    (registration_named tables of.0 r of.2, has.0, has.1, tt, tt, tt))

-- ---- what stands beside a text

-- what the items of a text are asked together with, beside what servers keep
abbrev pub context_beside : RawDefs → List StoredServer → Context
context_beside raw stored = context_of raw (known_stored stored)

module _ (raw : RawDefs) (stored : List StoredServer) (keeps : KeepsRules raw stored) where
  -- what a server keeps has spellings
  server_spelled : (server : StoredServer) → In server stored → IsSpelledServer server
  server_spelled server i = at_one IsSpelledServer stored server keeps.spelled i

  -- the tables of the text have few columns
  pub text_tables : AllByRecursion (λ t. IsSmallTable t.def) (filter_map spelled_table raw.tables)
  text_tables = small_tables raw (context_beside raw stored) keeps.kept (table_columns (defs_beside raw stored) stored keeps.counts)

  -- the columns of each table beside the text are counted
  tables_counted : AllByRecursion (λ t. IsCounted t.def.columns) (context_beside raw stored).tables
  unfolding context_of
  tables_counted = all_append (λ (t : TableAt). IsCounted t.def.columns) (filter_map spelled_table raw.tables) _
      (all_weaker (λ (t : TableAt). IsSmallTable t.def) (λ (t : TableAt). IsCounted t.def.columns) (filter_map spelled_table raw.tables) (λ t small. small.is.1.0) text_tables)
      (all_filter (λ (t : TableAt). IsCounted t.def.columns) (is_other_table raw.tables) (known_stored stored).tables (at_each (λ (t : TableAt). IsCounted t.def.columns) (known_stored stored).tables known))
    where
      known : (t : TableAt) → In t (known_stored stored).tables → IsCounted t.def.columns
      known t i =
          let at = in_flat_map _ stored t i in
          let row = in_map (λ (d : DefinedTable). record { server = at.0.name; def = d.def }) at.0.tables t at.2 in
          subst (λ (a : TableAt). IsCounted a.def.columns) (sym row.2) (at_one (λ (d : DefinedTable). HasTableSpelling d.def) at.0.tables row.0 (server_spelled at.0 at.1).tables row.1).0

  -- the registrations of the text are made of names and places
  pub text_registrations : AllByRecursion (λ r. IsRegistration r.def) (filter_map (spelled_registration (context_beside raw stored).tables) raw.registrations)
  text_registrations = typed_registrations (context_beside raw stored).tables raw.registrations tables_counted

  -- the after-images of each registration beside the text have places of two bytes
  pub images_counted : AllByRecursion (λ r. ArePlaces r.def.after) (context_beside raw stored).registrations
  unfolding context_of
  images_counted = all_append (λ (r : RegistrationAt). ArePlaces r.def.after) (filter_map (spelled_registration (context_beside raw stored).tables) raw.registrations) _
      (all_weaker (λ (r : RegistrationAt). IsRegistration r.def) (λ (r : RegistrationAt). ArePlaces r.def.after) (filter_map (spelled_registration (context_beside raw stored).tables) raw.registrations) (λ r is. is.1) text_registrations)
      (all_filter (λ (r : RegistrationAt). ArePlaces r.def.after) (is_other_registration raw.registrations) (known_stored stored).registrations (at_each (λ (r : RegistrationAt). ArePlaces r.def.after) (known_stored stored).registrations known))
    where
      known : (r : RegistrationAt) → In r (known_stored stored).registrations → ArePlaces r.def.after
      known r i =
          let at = in_flat_map _ stored r i in
          let row = in_map (λ (d : DefinedRegistration). record { server = at.0.name; def = d.registration }) at.0.registrations r at.2 in
          subst (λ (a : RegistrationAt). ArePlaces a.def.after) (sym row.2) (at_one (λ (d : DefinedRegistration). HasRegistrationSpelling d.registration) at.0.registrations row.0 (server_spelled at.0 at.1).registrations row.1).0

-- tables and registrations are made of names and of lists with counts of two bytes
pub types_items : TypesItems
types_items raw stored keeps = (all_weaker (λ (t : TableAt). IsSmallTable t.def) (λ (t : TableAt). IsTable t.def) (filter_map spelled_table raw.tables) (λ t small. small.is) (text_tables raw stored keeps), text_registrations raw stored keeps)
