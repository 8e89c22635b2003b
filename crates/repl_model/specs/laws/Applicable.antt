-- What is applicable leaves the keys.
use Rattle.std.proofs.Common.{◌≡◌, ℕ, suc, true, false, ◌&&◌, List, [], ◌∷◌, ◌++◌, length, Option, Some, inl, inr, refl, sym, ap, subst, ◌∙◌, IsTrue, ◌==◌, nat_le, sum_by, slice_index_or, bytes_eq}
use Rattle.std.specs.List.{list_all, list_any}
use Rattle.std.specs.Option.{option_map_or}
use Rattle.std.proofs.lemmas.Slice.Eq.{bytes_eq-Decides}
use Rattle.std.proofs.lemmas.Bool.{and_parts, or_cases, eqb-true}
use Rattle.repl_types.specs.Sizes.{key_limit}
use Rattle.repl_types.specs.Value.{Values, images, spelled_len}
use Rattle.repl_types.specs.declared.value.Value.{Value}
use Rattle.repl_types.specs.declared.value.Value.TheVariants.{Null}
use Rattle.repl_types.specs.declared.table.TableDef.{TableDef}
use Rattle.repl_types.specs.declared.table.ColumnDef.{ColumnDef}
use Rattle.repl_types.specs.declared.record.Change.{Change}
use Rattle.repl_types.specs.declared.record.Change.TheVariants.{Insert, Update, Delete, Start, Stop}
use Rattle.repl_types.specs.declared.record.LogRecord.{LogRecord}
use Rattle.repl_types.specs.declared.record.LogRecord.TheVariants as records
use Rattle.repl_model.specs.Tables.{key_of, same_values, table_of}
use Rattle.repl_model.specs.Applicable.{fits_column, fits_columns, fits, change_fits, table_named, is_change_applicable, is_applicable}
use Rattle.repl_model.specs.Copies.{IsWhole, LeavesKey, RecordLeavesKey, LeavesKeys, is_key_fixed}
use Rattle.repl_model.specs.laws.Lists.{each_push}
use Rattle.repl_model.specs.laws.Rows.{same_values_exact}

-- values that fit the columns are as many
pub columns_length : (columns : List ColumnDef) (row : Values) → fits_columns columns row ≡ true → length row ≡ length columns
columns_length [] [] e = refl
columns_length [] (v ∷ row) e = absurd cc
columns_length (column ∷ columns) [] e = absurd cc
columns_length (column ∷ columns) (v ∷ row) e = ap suc (columns_length columns row (and_parts (fits_column column v) (fits_columns columns row) e).1)

-- a row that fits its table has a value for each column
pub fits_whole : (def : TableDef) (row : Values) → fits def row ≡ true → IsWhole def row
fits_whole def row e = columns_length def.columns row (and_parts (fits_columns def.columns row) (nat_le (sum_by spelled_len (key_of def row)) key_limit) e).0

-- ---- the fixed columns

-- lists that are equal have equal heads and equal tails
parts_same : (x y : Value) (xs ys : Values) → x ∷ xs ≡ y ∷ ys → (x ≡ y) × (xs ≡ ys)
parts_same x y xs ys e = (cc, cc)

-- rows that are alike at some places are alike at each of them
place_same : (places : List ℕ) (a b : Values) (place : ℕ) → images places a ≡ images places b → list_any (λ p. p == place) places ≡ true → slice_index_or a place Null ≡ slice_index_or b place Null
place_same [] a b place e h = absurd cc
place_same (p ∷ places) a b place e h =
    let parts = parts_same (slice_index_or a p Null) (slice_index_or b p Null) (images places a) (images places b) e in
    let rest = place_same places a b place parts.1 in
    elim (or_cases (p == place) (list_any (λ p. p == place) places) h) [
      | inl here ↦ subst (λ (k : ℕ). slice_index_or a k Null ≡ slice_index_or b k Null) (eqb-true p place here) parts.0
      | inr later ↦ rest later
    ]

-- rows that are alike at some places are alike at any selection of the places, in any order
images_same : (fixed key : List ℕ) (a b : Values) → list_all (λ place. list_any (λ f. f == place) fixed) key ≡ true → images fixed a ≡ images fixed b → images key a ≡ images key b
images_same fixed [] a b h e = refl
images_same fixed (place ∷ key) a b h e =
    let parts = and_parts (list_any (λ f. f == place) fixed) (list_all (λ place. list_any (λ f. f == place) fixed) key) h in
    ap (λ (v : Value). v ∷ images key a) (place_same fixed a b place e parts.0)
    ∙ ap (λ (vs : Values). slice_index_or b place Null ∷ vs) (images_same fixed key a b parts.1 e)

-- ---- changes

-- a change that fits has whole rows, and leaves the key if the key is fixed
fits_leaves : (def : TableDef) (change : Change) → is_key_fixed def ≡ true → change_fits def change ≡ true → LeavesKey def change
unfolding change_fits
fits_leaves def (Insert table row) fixed h = fits_whole def row h
fits_leaves def (Update table before after) fixed h =
    let outer = and_parts (fits def before && fits def after) (same_values (images def.fixed before) (images def.fixed after)) h in
    let rows = and_parts (fits def before) (fits def after) outer.0 in
    (fits_whole def before rows.0, fits_whole def after rows.1, images_same def.fixed def.key before after fixed (same_values_exact _ _ outer.1))
fits_leaves def (Delete table row) fixed h = fits_whole def row h
fits_leaves def (Start table) fixed h = tt
fits_leaves def (Stop table) fixed h = tt

-- a change of a table is applicable only if it fits that table
change_of_table : (tables : List TableDef) (def : TableDef) (change : Change) → table_named def.name tables ≡ Some def → IsTrue (bytes_eq (table_of change) def.name) → is_change_applicable tables change ≡ true → change_fits def change ≡ true
change_of_table tables def change here named h =
    sym (ap (λ (found : Option TableDef). option_map_or (λ d. change_fits d change) found false) (ap (λ (name : List ℕ). table_named name tables) ((bytes_eq-Decides (table_of change) def.name).0 named) ∙ here)) ∙ h

-- an applicable change of a table has whole rows, and leaves the key if the key is fixed
applicable_leaves : (tables : List TableDef) (def : TableDef) (change : Change) → table_named def.name tables ≡ Some def → is_key_fixed def ≡ true → is_change_applicable tables change ≡ true → IsTrue (bytes_eq (table_of change) def.name) → LeavesKey def change
applicable_leaves tables def change here fixed h named = fits_leaves def change fixed (change_of_table tables def change here named h)

-- one more applicable record leaves the keys
pub leaves_keys_push : (def : TableDef) (tables : List TableDef) (log : List LogRecord) (r : LogRecord) → table_named def.name tables ≡ Some def → is_key_fixed def ≡ true → LeavesKeys def log → is_applicable tables log r ≡ true → LeavesKeys def (log ++ r ∷ [])
unfolding is_applicable
leaves_keys_push def tables log r here fixed h e = each_push (RecordLeavesKey def) log r h (leaves r e)
  where
    leaves : (r : LogRecord) → is_applicable tables log r ≡ true → RecordLeavesKey def r
    leaves (records.Change tx change) e = applicable_leaves tables def change here fixed e
    leaves (records.Commit tx time authid origin) e = tt
    leaves (records.Abort tx) e = tt
