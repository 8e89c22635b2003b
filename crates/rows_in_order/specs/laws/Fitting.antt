-- Rows of which a relation holds.
use Rattle.std.proofs.Common.{◌≡◌, ℕ, List, ◌∷◌, not, filter}
use Rattle.std.specs.List.{AllByRecursion}
use Rattle.keep_core.specs.Contents.{IsNextKey, same_key}
use Rattle.rows_in_order.specs.Rows.{is_before, table_from_rows, IsRising, IsToldApart, with_row, without_row, SpellsApart, HasRow, NextRow}
use Rattle.repl_types.specs.laws.Lists.{all_weaker, all_append, all_filter}
use Rattle.rows_in_order.specs.laws.Filtered.{all_at}
use Rattle.rows_in_order.specs.laws.Rising.{next_row}

module _ {A X : Type 0} (fits : A × X → Type 0) where
  -- what holds of all rows holds of each
  pub fits_each : (rows : List (A × X)) (row : A × X) → AllByRecursion fits rows → HasRow rows row → fits row
  fits_each rows row all has = all_at fits rows row has.front has.back has.split all

  -- ---- changes

  -- it still holds of all after a row is put of which it holds
  pub fits_put : (key : A → List ℕ) (row : A × X) (rows : List (A × X)) → fits row → AllByRecursion fits rows → AllByRecursion fits (with_row key row rows)
  fits_put key row rows one all = all_append fits (filter (λ r. is_before (key r.0) (key row.0)) rows) (row ∷ filter (λ r. is_before (key row.0) (key r.0)) rows) (all_filter fits (λ r. is_before (key r.0) (key row.0)) rows all) (one, all_filter fits (λ r. is_before (key row.0) (key r.0)) rows all)

  -- and after a row is removed
  pub fits_removed : (key : A → List ℕ) (k : List ℕ) (rows : List (A × X)) → AllByRecursion fits rows → AllByRecursion fits (without_row key k rows)
  fits_removed key k rows all = all_filter fits (λ r. not (same_key (key r.0) k)) rows all

  -- ---- reads

  module _ (key : A → List ℕ) (value : X → List ℕ) where
    -- a row of which it holds is told apart from the others by its spelling
    pub fits_told : (rows : List (A × X)) (row : A × X) → SpellsApart fits key value → AllByRecursion fits rows → fits row → IsToldApart key value rows row
    fits_told rows row apart all one = all_weaker fits (λ r. key r.0 ≡ key row.0 → value r.1 ≡ value row.1 → r ≡ row) rows (λ r fit keys values. apart r row fit one keys values) all

    -- so the next key and its value are those of the next row
    pub fits_next : (rows : List (A × X)) (after : List ℕ) (row : A × X) → SpellsApart fits key value → AllByRecursion fits rows → fits row → IsRising key rows → IsNextKey (table_from_rows key value rows) after (key row.0) (value row.1) → NextRow key rows after row
    fits_next rows after row apart all one rise next = next_row key value rows after row rise (fits_told rows row apart all one) next
