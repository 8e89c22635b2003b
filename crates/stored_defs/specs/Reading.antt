-- What reading all records of a table gives, and what shows that it is damaged.
use Rattle.std.specs.Prelude.{◌≡◌, ℕ, List, Some, map}
use Rattle.std.specs.List.{AllByRecursion}
use Rattle.repl_types.specs.declared.area.Area.{Area}
use Rattle.keep_core.specs.Contents.{Contents}
use Rattle.rows_in_order.specs.Rows.{table_from_rows}
use Rattle.site_store.specs.Damage.{Rules}
use Rattle.world_store.specs.SpelledRows.{Spells, AreRows}

-- if a table of these contents is made of rows, these are their records, in order
abbrev pub HasRecords : {A X : Type 0} → (A → Type 0) → (A → List ℕ) → (X → Type 0) → (X → List ℕ) → Area → ℕ → List X → Contents → Type 0
HasRecords {A} {X} key_fits key fits spelling a t records c = (rows : List (A × X)) → AreRows key_fits key fits rows → c a t ≡ table_from_rows key spelling rows → records ≡ map (λ row. row.1) rows

-- each record stands in the table, under some key
abbrev pub AllStand : {X : Type 0} → (X → List ℕ) → Area → ℕ → List X → Contents → Type 0
AllStand spelling a t records c = AllByRecursion (λ x. (k : List ℕ) × (c a t k ≡ Some (spelling x))) records

-- one table has only keys and records of its kind; no record is called for, and each fits
abbrev pub table_rules : {A X : Type 0} → (A → Type 0) → (A → List ℕ) → (X → Type 0) → (X → List ℕ) → Area → ℕ → Rules
table_rules key_fits key fits spelling a t = record {
  is_key = λ b u bytes. b ≡ a → u ≡ t → Spells key_fits key bytes;
  is_value = λ b u bytes. b ≡ a → u ≡ t → Spells fits spelling bytes;
  is_needed = λ b u k c. ⊥;
  is_unfit = λ b u k value c. ⊥;
}
