-- Rows of a table of the source that stand under their keys: they can be spelled, and are in the order of the keys.
use Rattle.std.proofs.Common.{◌≡◌, ℕ, ◌<◌, cond, List, [], ◌∷◌, ◌++◌, length, map, get_or, refl, sym, subst, arith, suc, zero, T, Some}
use Rattle.std.specs.FinMap.{entries, entries_sorted}
use Rattle.std.specs.FinMap.Entries.{is_sorted}
use Rattle.std.specs.List.{AllByRecursion}
use Rattle.world_store.specs.Words.{IsKey, IsRow, key_spelling, row_spelling, value_spelling, one_whole, order_key, one_key, one_row, source_row_spelling, table_from_rows, AllAfter, IsRising, SpellsApart, all_some, sorted_rises}
use Rattle.repl_model.specs.Words.{Values, key_cmp, images, TableDef, Value, all_weaker, Rows, IsValue}
use Rattle.repl_types.specs.declared.value.Value.TheVariants.{Null, Int, Text}
use Rattle.keep_core.specs.Contents.{same_key}
use Rattle.stored_commits.specs.records.SourceTables.{stored_row, StandsUnderKey, RowsStand, KeysOfRowsFit}

-- a row under its key
abbrev Entry : Type 0
Entry = Values × Values

-- ---- keys in order

-- sorted entries rise
entries_rise : (es : List Entry) → AllByRecursion (λ (e : Entry). IsKey e.0) es → T (is_sorted key_cmp es) → IsRising key_spelling es
entries_rise es all sorted = sorted_rises key_spelling IsKey key_cmp order_key es all sorted

-- a key of at least one value takes a byte
pub some_byte : (places : List ℕ) (row : Values) → 0 < length places → 0 < length (key_spelling (images places row))
some_byte [] row some = absurd (omega arith)
some_byte (place ∷ places) row some = by_value (get_or row place Null) (key_spelling (images places row))
  where
    by_value : (v : Value) (rest : List ℕ) → 0 < length (value_spelling v ++ rest)
    by_value Null rest = omega arith
    by_value (Int n) rest = omega arith
    by_value (Text t) rest = omega arith

-- ---- keys of rows

-- a value of a row of values is one
value_at : (row : Values) (place : ℕ) → AllByRecursion IsValue row → IsValue (get_or row place Null)
value_at [] place all = tt
value_at (v ∷ row) zero all = all.0
value_at (v ∷ row) (suc place) all = value_at row place all.1

-- so the values of its key are
images_fit : (places : List ℕ) (row : Values) → AllByRecursion IsValue row → IsKey (images places row)
images_fit [] row all = tt
images_fit (place ∷ places) row all = (value_at row place all, images_fit places row all)

-- the key of a row of values can be spelled
pub key_fits : KeysOfRowsFit
key_fits def row fits = images_fit def.key row fits.1

-- ---- tables

-- the stored table of entries is made of them
pub table_of_entries : (es : List Entry) → table_from_rows key_spelling source_row_spelling (map stored_row es) ≡ table_from_rows key_spelling row_spelling es
table_of_entries [] = refl
table_of_entries (e ∷ es) = λ i k. cond (same_key (key_spelling e.0) k) (Some (row_spelling e.1)) (table_of_entries es i k)

-- rows under their keys are told apart by their spellings
pub rows_apart : SpellsApart (λ (e : Entry). IsKey e.0 × IsRow e.1) key_spelling row_spelling
rows_apart r s fr fs keys values = λ i. (one_key r.0 s.0 fr.0 fs.0 keys i, one_whole IsRow row_spelling one_row r.1 s.1 fr.1 fs.1 values i)

module _ (def : TableDef) (rows : Rows) (stand : RowsStand def rows) where
  -- rows that stand under their keys can be spelled
  pub standing_fit : AllByRecursion (λ e. IsKey e.0 × IsRow e.1) (entries rows)
  standing_fit = all_weaker (StandsUnderKey def) (λ (e : Entry). IsKey e.0 × IsRow e.1) (entries rows) (λ e s. (subst IsKey (sym s.own) (key_fits def e.1 s.row), s.row)) stand

  -- their keys rise
  pub standing_rise : IsRising key_spelling (entries rows)
  standing_rise = entries_rise (entries rows) (all_weaker (λ (e : Entry). IsKey e.0 × IsRow e.1) (λ (e : Entry). IsKey e.0) (entries rows) (λ e fit. fit.0) standing_fit) (entries_sorted rows)

  -- and have bytes, if the table has a key
  pub standing_some : 0 < length def.key → AllAfter key_spelling [] (entries rows)
  standing_some keyed = all_some key_spelling (entries rows) (all_weaker (StandsUnderKey def) (λ (e : Entry). 0 < length (key_spelling e.0)) (entries rows) (λ e s. subst (λ (k : Values). 0 < length (key_spelling k)) (sym s.own) (some_byte def.key e.1 keyed)) stand)
