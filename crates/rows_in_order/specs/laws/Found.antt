-- What stands in a table is a row's, and the next key is the next row's.
use Rattle.std.proofs.Common.{◌≡◌, ℕ, ◌<◌, Bool, true, false, cond, List, [], ◌∷◌, ◌++◌, length, refl, sym, ap, subst, ◌∙◌, Some, is_lt, Less}
use Rattle.std.specs.List.{AllByRecursion}
use Rattle.repl_types.specs.Bytes.{bytes_cmp}
use Rattle.keep_core.specs.Contents.{IsNextKey, same_key}
use Rattle.rows_in_order.specs.Rows.{is_before, table_from_rows, AllAfter, NoneAfter, IsRising, IsToldApart, HasRow, NextRow}
use Rattle.rows_in_order.specs.laws.Before.{not_both, empty_before}
use Rattle.repl_types.specs.laws.Lists.{all_weaker}
use Rattle.rows_in_order.specs.laws.Rising.{same_is, past_head, some_is, some_none, next_row}
use Rattle.rows_in_order.specs.laws.Unique.{one_row_at}

module _ {A X : Type 0} where
  -- one of the later rows is one of all
  has_later : (r : A × X) (rs : List (A × X)) (e : A × X) → HasRow rs e → HasRow (r ∷ rs) e
  has_later r rs e has = record { front = r ∷ has.front; back = has.back; split = ap (λ (l : List (A × X)). r ∷ l) has.split }

  -- each row is one of the rows
  all_there : (rows : List (A × X)) → AllByRecursion (λ r. HasRow rows r) rows
  all_there [] = tt
  all_there (r ∷ rs) = (record { front = []; back = rs; split = refl }, all_weaker (λ q. HasRow rs q) (λ q. HasRow (r ∷ rs) q) rs (λ q has. has_later r rs q has) (all_there rs))

  module _ (key : A → List ℕ) where
    -- a search that begins below all rows gives the first
    pub first_row : (rows : List (A × X)) (after : List ℕ) (row : A × X) (next : NextRow key rows after row) → AllAfter key after rows → rows ≡ row ∷ next.back
    first_row rows after row next all = next.split ∙ pick next.front next.passed (subst (AllAfter key after) next.split all)
      where
        pick : (front : List (A × X)) → NoneAfter key after front → AllAfter key after (front ++ row ∷ next.back) → front ++ row ∷ next.back ≡ row ∷ next.back
        pick [] none all = refl
        pick (q ∷ qs) none all = absurd (not_both (is_before after (key q.0)) (ap is_lt all.0) none.0)

    -- and if it gives none, there is no row
    pub no_first_row : (rows : List (A × X)) (after : List ℕ) → NoneAfter key after rows → AllAfter key after rows → rows ≡ []
    no_first_row [] after none all = refl
    no_first_row (r ∷ rs) after none all = absurd (not_both (is_before after (key r.0)) (ap is_lt all.0) none.0)

    -- rows whose keys aren't empty are after the empty key
    pub all_some : (rows : List (A × X)) → AllByRecursion (λ r. 0 < length (key r.0)) rows → AllAfter key [] rows
    all_some rows some = all_weaker (λ r. 0 < length (key r.0)) (λ r. bytes_cmp [] (key r.0) ≡ Less) rows (λ r lt. empty_before (key r.0) lt) some

    module _ (value : X → List ℕ) where
      -- what stands at a key is a row's value
      pub row_of : (rows : List (A × X)) (k v : List ℕ) → table_from_rows key value rows k ≡ Some v → (row : A × X) × HasRow rows row × (key row.0 ≡ k) × (value row.1 ≡ v)
      row_of [] k v has = absurd (some_none key value (sym has))
      row_of (r ∷ rs) k v has = pick (same_key (key r.0) k) refl (row_of rs k v)
        where
          pick : (t : Bool) → same_key (key r.0) k ≡ t → (table_from_rows key value rs k ≡ Some v → (row : A × X) × HasRow rs row × (key row.0 ≡ k) × (value row.1 ≡ v)) → (row : A × X) × HasRow (r ∷ rs) row × (key row.0 ≡ k) × (value row.1 ≡ v)
          pick true same rest = (r, record { front = []; back = rs; split = refl }, same_is (key r.0) k same, some_is key value (sym (ap (λ (t : Bool). cond t (Some (value r.1)) (table_from_rows key value rs k)) same) ∙ has))
          pick false same rest = let found = rest (sym (past_head key value r rs k same) ∙ has) in (found.0, has_later r rs found.0 found.1, found.2, found.3)

      -- of rows that rise each is told apart
      pub told_apart : (rows : List (A × X)) (row : A × X) → IsRising key rows → HasRow rows row → IsToldApart key value rows row
      told_apart rows row rise has = all_weaker (λ r. HasRow rows r) (λ r. key r.0 ≡ key row.0 → value r.1 ≡ value row.1 → r ≡ row) rows (λ r there keys values. one_row_at key rows r row rise there has keys) (all_there rows)

      -- the next key is a row's, which is the next
      pub next_of : (rows : List (A × X)) (after k v : List ℕ) → IsRising key rows → IsNextKey (table_from_rows key value rows) after k v → (row : A × X) × NextRow key rows after row × (key row.0 ≡ k) × (value row.1 ≡ v)
      next_of rows after k v rise next =
          let found = row_of rows k v next.has in
          let row : A × X = found.0 in
          let spelled : IsNextKey (table_from_rows key value rows) after (key row.0) (value row.1) = subst (λ (q : List ℕ). IsNextKey (table_from_rows key value rows) after q (value row.1)) (sym found.2) (subst (λ (w : List ℕ). IsNextKey (table_from_rows key value rows) after k w) (sym found.3) next) in
          (row, next_row key value rows after row rise (told_apart rows row rise found.1) spelled, found.2, found.3)
