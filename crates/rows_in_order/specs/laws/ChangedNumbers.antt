-- Rows of numbers with one more, and with one less.
use Rattle.std.proofs.Common.{◌≡◌, ℕ, ◌+◌, ◌<◌, List, ◌∷◌, ◌++◌, sym, ap, subst, ◌∙◌, arith, Some, None, ltb, not, ◌==◌, filter}
use Rattle.keep_core.specs.Contents.{same_key, set_key}
use Rattle.rows_in_order.specs.Rows.{is_before, table_from_rows, IsRising, with_row, without_row}
use Rattle.rows_in_order.specs.Numbers.{SpellsInOrder, AllBelow, NumbersRise, with_number, without_number}
use Rattle.repl_types.specs.laws.Lists.{filter_alike, all_weaker, all_append, all_filter}
use Rattle.rows_in_order.specs.laws.Changed.{table_with, table_without, rises_with, rises_without}
use Rattle.rows_in_order.specs.laws.BetweenNumbers.{lone, lone_order, limit_of, below}
use Rattle.rows_in_order.specs.laws.ByNumber.{key_same, key_is_before, rises, number_rises}

module _ {X : Type 0} where
  -- ---- limits

  -- the numbers stay below a limit if a row is put whose number is
  pub with_below : (limit : ℕ) (row : ℕ × X) (rows : List (ℕ × X)) → row.0 < limit → AllBelow limit rows → AllBelow limit (with_number row rows)
  with_below limit row rows lr small = all_append (λ r. r.0 < limit) (filter (λ r. ltb r.0 row.0) rows) (row ∷ filter (λ r. ltb row.0 r.0) rows) (all_filter (λ r. r.0 < limit) (λ r. ltb r.0 row.0) rows small) (lr, all_filter (λ r. r.0 < limit) (λ r. ltb row.0 r.0) rows small)

  -- and if a row is removed
  pub without_below : (limit n : ℕ) (rows : List (ℕ × X)) → AllBelow limit rows → AllBelow limit (without_number n rows)
  without_below limit n rows small = all_filter (λ r. r.0 < limit) (λ r. not (r.0 == n)) rows small

module _ {X : Type 0} (key : ℕ → List ℕ) (limit : ℕ) (in_order : SpellsInOrder key limit) where
  -- ---- the same rows, by keys and by numbers

  -- a row that is put at its key is put at its number
  with_is : (row : ℕ × X) (rows : List (ℕ × X)) → row.0 < limit → AllBelow limit rows → with_row key row rows ≡ with_number row rows
  with_is row rows lr small =
      ap (λ (l : List (ℕ × X)). l ++ row ∷ filter (λ r. is_before (key row.0) (key r.0)) rows) (filter_alike (λ r. is_before (key r.0) (key row.0)) (λ r. ltb r.0 row.0) rows (all_weaker (λ r. r.0 < limit) (λ r. is_before (key r.0) (key row.0) ≡ ltb r.0 row.0) rows (λ r lt. key_is_before key limit in_order r.0 row.0 lt lr) small))
      ∙ ap (λ (l : List (ℕ × X)). filter (λ r. ltb r.0 row.0) rows ++ row ∷ l) (filter_alike (λ r. is_before (key row.0) (key r.0)) (λ r. ltb row.0 r.0) rows (all_weaker (λ r. r.0 < limit) (λ r. is_before (key row.0) (key r.0) ≡ ltb row.0 r.0) rows (λ r lt. key_is_before key limit in_order row.0 r.0 lr lt) small))

  -- and the row of a key is the row of its number
  without_is : (n : ℕ) (rows : List (ℕ × X)) → n < limit → AllBelow limit rows → without_row key (key n) rows ≡ without_number n rows
  without_is n rows ln small = filter_alike (λ r. not (same_key (key r.0) (key n))) (λ r. not (r.0 == n)) rows (all_weaker (λ r. r.0 < limit) (λ r. not (same_key (key r.0) (key n)) ≡ not (r.0 == n)) rows (λ r lt. ap not (key_same key limit in_order r.0 n lt ln)) small)

  -- ---- tables

  -- the table after a row is put at its number
  pub put_number : (value : X → List ℕ) (row : ℕ × X) (rows : List (ℕ × X)) → row.0 < limit → AllBelow limit rows → table_from_rows key value (with_number row rows) ≡ set_key (table_from_rows key value rows) (key row.0) (Some (value row.1))
  put_number value row rows lr small = ap (table_from_rows key value) (sym (with_is row rows lr small)) ∙ table_with key value row rows

  -- the table after the row of a number is removed
  pub remove_number : (value : X → List ℕ) (n : ℕ) (rows : List (ℕ × X)) → n < limit → AllBelow limit rows → table_from_rows key value (without_number n rows) ≡ set_key (table_from_rows key value rows) (key n) None
  remove_number value n rows ln small = ap (table_from_rows key value) (sym (without_is n rows ln small)) ∙ table_without key value (key n) rows

  -- ---- order

  -- the numbers still rise after a row is put
  with_rises : (row : ℕ × X) (rows : List (ℕ × X)) → row.0 < limit → AllBelow limit rows → NumbersRise rows → NumbersRise (with_number row rows)
  with_rises row rows lr small rise = number_rises key limit in_order (with_number row rows) (with_below limit row rows lr small) (subst (IsRising key) (with_is row rows lr small) (rises_with key row rows (rises key limit in_order rows small rise)))

  -- and after a row is removed
  without_rises : (n : ℕ) (rows : List (ℕ × X)) → n < limit → AllBelow limit rows → NumbersRise rows → NumbersRise (without_number n rows)
  without_rises n rows ln small rise = number_rises key limit in_order (without_number n rows) (without_below limit n rows small) (subst (IsRising key) (without_is n rows ln small) (rises_without key (key n) rows (rises key limit in_order rows small rise)))

-- with a spelling that suits every number
module _ {X : Type 0} where
  -- the numbers still rise after a row is put
  pub number_put_rises : (row : ℕ × X) (rows : List (ℕ × X)) → NumbersRise rows → NumbersRise (with_number row rows)
  number_put_rises row rows rise =
      let m = limit_of rows + (row.0 + 1) in
      with_rises lone m (lone_order m) row rows (omega arith) (below rows (row.0 + 1)) rise

  -- and after a row is removed
  pub number_removed_rises : (n : ℕ) (rows : List (ℕ × X)) → NumbersRise rows → NumbersRise (without_number n rows)
  number_removed_rises n rows rise =
      let m = limit_of rows + (n + 1) in
      without_rises lone m (lone_order m) n rows (omega arith) (below rows (n + 1)) rise
