-- Tables and their registrations keep the rules once accepted definitions are loaded.
use Rattle.std.proofs.Common.{◌≡◌, ℕ, ◌<◌, ◌≤◌, true, false, not, ◌&&◌, ◌⊎◌, inl, inr, List, [], ◌++◌, length, Option, Some, None, refl, sym, ap, ap₂, subst, ◌∙◌, arith, ◌==◌, find, filter, is_none, is_some, nat_lt, slice_get, unwrap_or, bytes_eq}
use Rattle.std.specs.List.{AllByRecursion, filter_map, list_all}
use Rattle.std.specs.Option.{IfSome, option_map, option_map_or, option_or}
use Rattle.std.proofs.lemmas.Bool.{and_parts, and_from, false≢true, lt-ltb}
use Rattle.std.proofs.lemmas.Option.{none-some, slice_get_within}
use Rattle.repl_model.specs.Words.{is_name, ColumnDef, TableDef, all_places, may_be_key, TableKeepsRules, RegistrationKeepsRules, all_differ, is_among, are_among, places_rise, column_limit, KeepsTable, IsSound, Registered, ServerTable, Server, World, server_table, In, at_one, at_each, passes_at, all_pass_from, some_passes, in_either, in_filter, in_filter_map, in_map, found_in, same_name, name_itself, above_zero, not_not}
use Rattle.repl_commands.specs.declared.written.RawDefs.{RawDefs}
use Rattle.repl_commands.specs.declared.written.RawRegistration.{RawRegistration}
use Rattle.repl_commands.specs.declared.written.RawTable.{RawTable}
use Rattle.repl_defs.specs.Entries.{column_name}
use Rattle.spelled_defs.specs.Spelled.{spelled_column, spelled_table, table_def, column_place, column_places, is_column, is_table, columns_at, after_places, named_places, registration_def, spelled_registration}
use Rattle.spelled_defs.specs.declared.defs.Defs.{Defs}
use Rattle.spelled_defs.specs.declared.defs.RegistrationAt.{RegistrationAt}
use Rattle.spelled_defs.specs.declared.defs.TableAt.{TableAt}
use Rattle.checked_defs.specs.Broken.{table_breaks, registration_breaks}
use Rattle.checked_defs.specs.Rules.{table_has_names, texts_differ, table_stands_once, has_column_entries, is_key_column, has_key_columns, table_of_registration, after_fits, has_after_images, is_after_image, has_before_images}
use Rattle.checked_defs.specs.Whole.{is_whole_table}
use Rattle.checked_defs.specs.declared.rule.Rule.TheVariants.{Names, Columns, Key, After, Before}
use Rattle.load_laws.specs.worlds.Loads.{new_tables, fresh_registration, registration_in, register, load_server}
use Rattle.load_laws.specs.rules.Accepted.{Accepted, context_in}
use Rattle.load_laws.specs.rules.StaysSound.{HoldsLoaded}
use Rattle.load_laws.specs.rules.laws.Lists.{given_length, named_apart}
use Rattle.load_laws.specs.rules.laws.Kept.{table_kept, registration_kept, once_kept}
use Rattle.load_laws.specs.rules.laws.Items.{column_spelled, table_spelled, registration_spelled}
use Rattle.load_laws.specs.rules.laws.Places.{place_alone, places_apart, name_at_place, place_within, place_has_name, range_has, range_within, range_rises, named_column, named_rise, named_within}
use Rattle.load_laws.specs.laws.PartsOfSound.{TablesKeepRules}
use Rattle.load_laws.specs.laws.Servers.{each_loaded, server_rules}
use Rattle.load_laws.specs.laws.Context.{table_in_context}

-- ---- the rules that the items of tables keep

-- each name of a table of a text is a name
names_kept : (raw : RawDefs) (w : World) (defs : Defs) (item : RawTable) → Accepted raw w defs → In item raw.tables → table_has_names item ≡ true
unfolding table_breaks
names_kept raw w defs item accepted i = not_not (table_has_names item) (table_kept raw (context_in w raw) accepted.kept Names item i)

-- it has columns
columns_kept : (raw : RawDefs) (w : World) (defs : Defs) (item : RawTable) → Accepted raw w defs → In item raw.tables → has_column_entries item ≡ true
unfolding table_breaks
columns_kept raw w defs item accepted i = not_not (has_column_entries item) (table_kept raw (context_in w raw) accepted.kept Columns item i)

-- it has a key
key_kept : (raw : RawDefs) (w : World) (defs : Defs) (item : RawTable) → Accepted raw w defs → In item raw.tables → has_key_columns item ≡ true
unfolding table_breaks
key_kept raw w defs item accepted i = not_not (has_key_columns item) (table_kept raw (context_in w raw) accepted.kept Key item i)

-- ---- tables of a text

-- the columns that entries spell differ, if the names in the entries do
columns_apart : (entries : List (List ℕ)) → texts_differ (filter_map column_name entries) ≡ true → all_differ (λ a b. bytes_eq a.name b.name) (filter_map spelled_column entries) ≡ true
columns_apart = named_apart (λ (column : ColumnDef). column.name) bytes_eq spelled_column column_name (λ entry column e. (column_spelled entry column e).0)

-- a table of a text keeps the rules
item_keeps_rules : (raw : RawDefs) (w : World) (defs : Defs) (item : RawTable) → Accepted raw w defs → In item raw.tables → TableKeepsRules (table_def item.name (filter_map spelled_column item.columns) item)
item_keeps_rules raw w defs item accepted i = record {
  names = and_from (is_name item.name) (list_all (λ column. is_name column.name) columns)
      (and_parts _ (is_name item.name) (and_parts _ _ (and_parts _ _ (and_parts _ _ (names_kept raw w defs item accepted i)).0).0).0).1
      (all_pass_from (λ (column : ColumnDef). is_name column.name) columns (λ column j. let of = in_filter_map spelled_column item.columns column j in (column_spelled of.0 column of.2).1));
  differ = and_from (all_differ (λ a b. bytes_eq a.name b.name) columns && all_differ ◌==◌ (column_places columns item.key)) (all_differ ◌==◌ (column_places columns fixed))
      (and_from (all_differ (λ a b. bytes_eq a.name b.name) columns) (all_differ ◌==◌ (column_places columns item.key))
      (columns_apart item.columns (and_parts _ (texts_differ (filter_map column_name item.columns)) (and_parts _ _ (and_parts _ _ (and_parts _ _ once).0).0).0).1)
      (places_apart columns item.key (and_parts _ (texts_differ item.key) (and_parts _ _ (and_parts _ _ once).0).0).1))
      (places_apart columns fixed (and_parts _ (texts_differ fixed) (and_parts _ _ once).0).1);
  columns = lt-ltb 0 (length columns) (subst (λ n. 0 < n) (sym (given_length spelled_column item.columns (and_parts _ (list_all (λ entry. is_some (spelled_column entry)) item.columns) (and_parts _ _ (and_parts _ _ whole).0).0).1))
      (above_zero (length item.columns) (and_parts (not (length item.columns == 0)) _ (columns_kept raw w defs item accepted i)).0));
  key = and_from (nat_lt 0 (length (column_places columns item.key)) && list_all (may_be_key def) (column_places columns item.key)) (are_among (all_places def) (column_places columns fixed))
      (and_from (nat_lt 0 (length (column_places columns item.key))) (list_all (may_be_key def) (column_places columns item.key))
      (lt-ltb 0 (length (column_places columns item.key)) (subst (λ n. 0 < n) (sym (given_length (column_place columns) item.key (and_parts _ (list_all (is_column columns) item.key) (and_parts _ _ whole).0).1))
      (above_zero (length item.key) (and_parts (not (length item.key == 0)) _ (and_parts _ _ key).0).0)))
      (all_pass_from (may_be_key def) (column_places columns item.key) key_column))
      (all_pass_from (is_among (all_places def)) (column_places columns fixed) fixed_column);
}
  where
    columns : List ColumnDef
    columns = filter_map spelled_column item.columns

    fixed : List (List ℕ)
    fixed = unwrap_or item.fixed []

    def : TableDef
    def = table_def item.name columns item

    once : table_stands_once raw (context_in w raw) item ≡ true
    once = once_kept raw (context_in w raw) accepted.kept item i

    key : has_key_columns item ≡ true
    key = key_kept raw w defs item accepted i

    whole : is_whole_table item ≡ true
    whole = passes_at is_whole_table raw.tables item accepted.whole.tables i

    key_column : (p : ℕ) → In p (column_places columns item.key) → may_be_key def p ≡ true
    key_column p j =
        let of = in_filter_map (column_place columns) item.key p j in
        ap (λ (o : Option ColumnDef). option_map_or (λ column. not column.nullable) o false) (sym (name_at_place columns of.0 p of.2))
        ∙ passes_at (is_key_column columns) item.key of.0 (and_parts _ (list_all (is_key_column columns) item.key) (and_parts _ _ key).0).1 of.1

    fixed_column : (p : ℕ) → In p (column_places columns fixed) → is_among (all_places def) p ≡ true
    fixed_column p j =
        let of = in_filter_map (column_place columns) fixed p j in
        let within = place_within columns of.0 p of.2 in
        range_has 0 (length columns) p (omega arith) (omega arith)

-- ---- registrations of a text

-- the columns of a key are columns
key_within : (def : TableDef) → TableKeepsRules def → (p : ℕ) → In p def.key → p < length def.columns
key_within def keeps p i = by_column (slice_get def.columns p) refl (passes_at (may_be_key def) def.key p (and_parts _ (list_all (may_be_key def) def.key) (and_parts _ _ keeps.key).0).1 i)
  where
    by_column : (o : Option ColumnDef) → slice_get def.columns p ≡ o → option_map_or (λ column. not column.nullable) o false ≡ true → p < length def.columns
    by_column None e may = absurd (false≢true may)
    by_column (Some column) e may = slice_get_within def.columns p column e

-- a registration keeps the rules, if its item does over the table
registration_keeps : (def : TableDef) (item : RawRegistration) → TableKeepsRules def → after_fits def item.after ≡ true → list_all (is_after_image def item.after) (unwrap_or item.before []) ≡ true → RegistrationKeepsRules def (registration_def def.name def.columns item)
registration_keeps def item keeps after before = record {
  table = refl;
  after = by_names item.after after;
  before = and_from (places_rise (named_places names 0 def.columns)) (are_among images (named_places names 0 def.columns)) (named_rise names 0 def.columns)
      (all_pass_from (is_among images) (named_places names 0 def.columns) has_image);
}
  where
    places : List ℕ
    places = all_places def

    images : List ℕ
    images = after_places def.columns item.after

    names : List (List ℕ)
    names = unwrap_or item.before []

    within : (p : ℕ) → p < length def.columns → is_among places p ≡ true
    within p lt = range_has 0 (length def.columns) p (omega arith) (omega arith)

    fit : (some : List ℕ) → places_rise some ≡ true → ((p : ℕ) → In p some → p < length def.columns) → are_among some def.key ≡ true → (places_rise some && are_among places some && are_among some def.key) ≡ true
    fit some rise inside key = and_from (places_rise some && are_among places some) (are_among some def.key)
        (and_from (places_rise some) (are_among places some) rise (all_pass_from (is_among places) some (λ p i. within p (inside p i)))) key

    by_names : (o : Option (List (List ℕ))) → after_fits def o ≡ true → (places_rise (after_places def.columns o) && are_among places (after_places def.columns o) && are_among (after_places def.columns o) def.key) ≡ true
    by_names None fits = fit places (range_rises 0 (length def.columns)) (λ p i. let r = (range_within 0 (length def.columns) p i).1 in omega arith)
        (all_pass_from (is_among places) def.key (λ p i. within p (key_within def keeps p i)))
    by_names (Some some) fits = fit (named_places some 0 def.columns) (named_rise some 0 def.columns) (named_within some def.columns) (and_parts _ (are_among (named_places some 0 def.columns) def.key) fits).1

    has_image : (p : ℕ) → In p (named_places names 0 def.columns) → is_among images p ≡ true
    has_image p i =
        let r = named_column names 0 def.columns p i in
        let name = some_passes (λ (n : List ℕ). bytes_eq n r.1.name) names r.4 in
        let same = r.2 in
        let here : r.0 ≡ p = omega arith in
        by_place r.1 (subst (λ n. slice_get def.columns n ≡ Some r.1) here r.3) name.0 name.2 (column_place def.columns name.0) refl (passes_at (is_after_image def item.after) names name.0 before name.1)
      where
        by_place : (column : ColumnDef) → slice_get def.columns p ≡ Some column → (name : List ℕ) → bytes_eq name column.name ≡ true → (o : Option ℕ) → column_place def.columns name ≡ o → option_map_or (is_among images) o false ≡ true → is_among images p ≡ true
        by_place column stands name named None e image = absurd (false≢true image)
        by_place column stands name named (Some q) e image =
            let other = place_has_name def.columns name q e in
            let same : other.0.name ≡ column.name = sym (same_name name other.0.name other.2) ∙ same_name name column.name named in
            subst (λ n. is_among images n ≡ true)
            (place_alone (λ (a b : ColumnDef). bytes_eq a.name b.name) def.columns q p other.0 column (and_parts _ _ (and_parts _ _ keeps.differ).0).0 other.1 stands
            (ap (bytes_eq other.0.name) (sym same) ∙ name_itself other.0.name) (ap (bytes_eq column.name) same ∙ name_itself column.name)) image

-- the rule on after-images that an item keeps
after_kept : (raw : RawDefs) (w : World) (defs : Defs) (item : RawRegistration) → Accepted raw w defs → In item raw.registrations → has_after_images (context_in w raw) item ≡ true
unfolding registration_breaks
after_kept raw w defs item accepted i = not_not (has_after_images (context_in w raw) item) (registration_kept raw (context_in w raw) accepted.kept After item i)

-- the rule on before-images that an item keeps
before_kept : (raw : RawDefs) (w : World) (defs : Defs) (item : RawRegistration) → Accepted raw w defs → In item raw.registrations → has_before_images (context_in w raw) item ≡ true
unfolding registration_breaks
before_kept raw w defs item accepted i = not_not (has_before_images (context_in w raw) item) (registration_kept raw (context_in w raw) accepted.kept Before item i)

-- a registration of a text keeps the rules of its table
text_keeps_rules : (raw : RawDefs) (w : World) (defs : Defs) → IsSound w → Accepted raw w defs → (s : Server) → In s w → (t : ServerTable) → In t (load_server defs s).tables → TableKeepsRules t.def → (x : RegistrationAt) → In x defs.registrations → x.server ≡ s.name → x.def.table ≡ t.def.name → RegistrationKeepsRules t.def x.def
text_keeps_rules raw w defs sound accepted s i t j keeps x k server table =
    subst (RegistrationKeepsRules t.def) (ap₂ (λ (name : List ℕ) (columns : List ColumnDef). registration_def name columns item.0) (sym name) (sym columns) ∙ sym (ap (λ (a : RegistrationAt). a.def) spelled))
    (registration_keeps t.def item.0 keeps
    (sym (ap (λ (o : Option TableDef). option_map_or (λ def. after_fits def item.0.after) o true) def) ∙ after_kept raw w defs item.0 accepted item.1)
    (sym (ap (λ (o : Option TableDef). option_map_or (λ def. list_all (is_after_image def item.0.after) (unwrap_or item.0.before [])) o true) def) ∙ before_kept raw w defs item.0 accepted item.1))
  where
    tables : List TableAt
    tables = (context_in w raw).tables

    item : (a : RawRegistration) × In a raw.registrations × (spelled_registration tables a ≡ Some x)
    item = in_filter_map (spelled_registration tables) raw.registrations x (subst (λ (d : Defs). In x d.registrations) accepted.spelled k)

    spelled : x ≡ record { server = item.0.server; def = registration_def item.0.table (columns_at tables item.0.server item.0.table) item.0 }
    spelled = registration_spelled tables item.0 x item.2

    name : item.0.table ≡ t.def.name
    name = sym (ap (λ (a : RegistrationAt). a.def.table) spelled) ∙ table

    there : (a : TableAt) × (find (is_table s.name t.def.name) tables ≡ Some a) × (a.def ≡ t.def)
    there = table_in_context raw w defs sound accepted s i t j

    found : find (is_table item.0.server item.0.table) tables ≡ Some there.0
    found = ap₂ (λ (a b : List ℕ). find (is_table a b) tables) (sym (ap (λ (a : RegistrationAt). a.server) spelled) ∙ server) name ∙ there.1

    columns : columns_at tables item.0.server item.0.table ≡ t.def.columns
    columns = ap (λ (o : Option TableAt). option_map_or (λ a. a.def.columns) o []) found ∙ ap (λ (d : TableDef). d.columns) there.2

    def : table_of_registration (context_in w raw) item.0 ≡ Some t.def
    def = ap (option_map (λ (a : TableAt). a.def)) found ∙ ap Some there.2

-- ---- tables of servers

-- the tables keep the rules, and so do their registrations
pub tables_keep_rules : HoldsLoaded TablesKeepRules
tables_keep_rules raw w defs sound accepted = each_loaded (λ s. AllByRecursion KeepsTable s.tables) defs w (λ s i. at_each KeepsTable (load_server defs s).tables (λ t j.
    let r = in_map (register defs s) (s.tables ++ new_tables defs s) t j in
    let part = in_either s.tables (new_tables defs s) r.0 r.1 in
    let keeps = table_keeps s i r.0 part in
    let rules : TableKeepsRules t.def = subst (λ (a : ServerTable). TableKeepsRules a.def) (sym r.2) keeps.0 in (
      rules,
      subst (λ (a : ServerTable). length a.def.columns ≤ column_limit) (sym r.2) keeps.1,
      subst (λ (o : Option Registered). IfSome o (λ q. RegistrationKeepsRules t.def q.reg)) (sym (ap (λ (a : ServerTable). a.registered) r.2))
          (subst (λ (d : TableDef). IfSome (option_or r.0.registered (registration_in defs s r.0)) (λ q. RegistrationKeepsRules d q.reg)) (sym (ap (λ (a : ServerTable). a.def) r.2))
          (by_registered s i r.0 (subst (λ (a : ServerTable). In a (load_server defs s).tables) r.2 j) keeps.0 part r.0.registered refl)),
    )))
  where
    old_keeps : (s : Server) → In s w → (t : ServerTable) → In t s.tables → KeepsTable t
    old_keeps s i t k = at_one KeepsTable s.tables t (server_rules w s sound i).tables k

    -- a new table is one of the text that isn't registered yet
    new_is : (s : Server) (t : ServerTable) → In t (new_tables defs s) → (x : TableAt) × In x defs.tables × (t ≡ record { def = x.def; registered = None })
    new_is s t k =
        let r = in_map (λ (a : TableAt). record { def = a.def; registered = None }) (filter (λ a. bytes_eq a.server s.name && is_none (server_table a.def.name s)) defs.tables) t k in
        (r.0, (in_filter (λ (a : TableAt). bytes_eq a.server s.name && is_none (server_table a.def.name s)) defs.tables r.0 r.1).0, r.2)

    table_keeps : (s : Server) → In s w → (t : ServerTable) → In t s.tables ⊎ In t (new_tables defs s) → TableKeepsRules t.def × (length t.def.columns ≤ column_limit)
    table_keeps s i t (inl k) = let keeps = old_keeps s i t k in (keeps.0, keeps.1)
    table_keeps s i t (inr k) =
        let x = new_is s t k in
        let item = in_filter_map spelled_table raw.tables x.0 (subst (λ (d : Defs). In x.0 d.tables) accepted.spelled x.1) in
        subst (λ (a : ServerTable). TableKeepsRules a.def × (length a.def.columns ≤ column_limit)) (sym x.2) (
          subst (λ (a : TableAt). TableKeepsRules a.def) (sym (table_spelled item.0 x.0 item.2)) (item_keeps_rules raw w defs item.0 accepted item.1),
          at_one (λ (a : TableAt). length a.def.columns ≤ column_limit) defs.tables x.0 accepted.limits.tables x.1,
        )

    by_found : (s : Server) → In s w → (t : ServerTable) → In (register defs s t) (load_server defs s).tables → TableKeepsRules t.def → (o : Option RegistrationAt) → find (λ r. bytes_eq r.server s.name && bytes_eq r.def.table t.def.name) defs.registrations ≡ o → IfSome (option_map (λ r. fresh_registration r.def) o) (λ q. RegistrationKeepsRules t.def q.reg)
    by_found s i t j keeps None e = tt
    by_found s i t j keeps (Some x) e =
        let at = found_in (λ (r : RegistrationAt). bytes_eq r.server s.name && bytes_eq r.def.table t.def.name) defs.registrations x e in
        let same = and_parts (bytes_eq x.server s.name) (bytes_eq x.def.table t.def.name) at.1 in
        text_keeps_rules raw w defs sound accepted s i (register defs s t) j keeps x at.0 (same_name x.server s.name same.0) (same_name x.def.table t.def.name same.1)

    by_registered : (s : Server) → In s w → (t : ServerTable) → In (register defs s t) (load_server defs s).tables → TableKeepsRules t.def → In t s.tables ⊎ In t (new_tables defs s) → (o : Option Registered) → t.registered ≡ o → IfSome (option_or t.registered (registration_in defs s t)) (λ q. RegistrationKeepsRules t.def q.reg)
    by_registered s i t j keeps part None e = subst (λ (o : Option Registered). IfSome (option_or o (registration_in defs s t)) (λ q. RegistrationKeepsRules t.def q.reg)) (sym e)
        (by_found s i t j keeps (find (λ r. bytes_eq r.server s.name && bytes_eq r.def.table t.def.name) defs.registrations) refl)
    by_registered s i t j keeps (inl k) (Some r) e = subst (λ (o : Option Registered). IfSome (option_or o (registration_in defs s t)) (λ q. RegistrationKeepsRules t.def q.reg)) (sym e)
        (subst (λ (o : Option Registered). IfSome o (λ q. RegistrationKeepsRules t.def q.reg)) e (old_keeps s i t k).2)
    by_registered s i t j keeps (inr k) (Some r) e = absurd (none-some r (sym (ap (λ (a : ServerTable). a.registered) (new_is s t k).2) ∙ e))
