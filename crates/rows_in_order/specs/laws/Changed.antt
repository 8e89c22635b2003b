-- Rows with one more, and with one less.
use Rattle.std.proofs.Common.{◌≡◌, ◌≢◌, ℕ, Bool, true, false, cond, List, [], ◌∷◌, ◌++◌, refl, sym, ap, ◌∙◌, Option, Some, None, not, filter, Ordering, Less, Equal, Greater}
use Rattle.std.specs.Ordering.{is_lt, is_eq, ordering_reverse}
use Rattle.std.proofs.lemmas.Cmp.{eq_by_cmp_equiv}
use Rattle.std.proofs.lemmas.List.Elements.{filter-append}
use Rattle.repl_types.specs.Bytes.{bytes_cmp}
use Rattle.keep_core.specs.Contents.{same_key, set_key}
use Rattle.rows_in_order.specs.Rows.{is_before, table_from_rows, AllBefore, AllAfter, IsRising, with_row, without_row}
use Rattle.rows_in_order.specs.laws.Before.{order, is_less}
use Rattle.repl_types.specs.laws.Lists.{all_weaker, all_append, filter_all}
use Rattle.rows_in_order.specs.laws.Filtered.{all_kept}
use Rattle.rows_in_order.specs.laws.Rising.{same_itself, same_is, differ, filter_rises, no_row_at}

-- the first of two if it is something, else the second
abbrev pub or_else : Option (List ℕ) → Option (List ℕ) → Option (List ℕ)
or_else None other = other
or_else (Some v) other = Some v

-- ---- tables

module _ {A X : Type 0} (key : A → List ℕ) (value : X → List ℕ) where
  -- a filter by keys keeps what stands at a key, or drops it
  pub filter_at : (p : A × X → Bool) (k : List ℕ) (t : Bool) → ((r : A × X) → key r.0 ≡ k → p r ≡ t) → (rows : List (A × X)) → table_from_rows key value (filter p rows) k ≡ cond t (table_from_rows key value rows k) None
  filter_at p k true agree [] = refl
  filter_at p k false agree [] = refl
  filter_at p k t agree (r ∷ rs) = pick (p r) refl (same_key (key r.0) k) refl (filter_at p k t agree rs)
    where
      kept : same_key (key r.0) k ≡ true → p r ≡ t
      kept same = agree r (same_is (key r.0) k same)

      pick : (u : Bool) → p r ≡ u → (s : Bool) → same_key (key r.0) k ≡ s → table_from_rows key value (filter p rs) k ≡ cond t (table_from_rows key value rs k) None → table_from_rows key value (cond u (r ∷ filter p rs) (filter p rs)) k ≡ cond t (cond (same_key (key r.0) k) (Some (value r.1)) (table_from_rows key value rs k)) None
      pick true e true f rest = ap (λ (b : Bool). cond b (Some (value r.1)) (table_from_rows key value (filter p rs) k)) f ∙ sym (ap (λ (b : Bool). cond t (cond b (Some (value r.1)) (table_from_rows key value rs k)) None) f ∙ ap (λ (b : Bool). cond b (Some (value r.1)) None) (sym (kept f) ∙ e))
      pick true e false f rest = ap (λ (b : Bool). cond b (Some (value r.1)) (table_from_rows key value (filter p rs) k)) f ∙ rest ∙ sym (ap (λ (b : Bool). cond t (cond b (Some (value r.1)) (table_from_rows key value rs k)) None) f)
      pick false e true f rest = rest ∙ ap (λ (b : Bool). cond b (table_from_rows key value rs k) None) (sym (kept f) ∙ e) ∙ sym (ap (λ (b : Bool). cond b (cond (same_key (key r.0) k) (Some (value r.1)) (table_from_rows key value rs k)) None) (sym (kept f) ∙ e))
      pick false e false f rest = rest ∙ sym (ap (λ (b : Bool). cond t (cond b (Some (value r.1)) (table_from_rows key value rs k)) None) f)

  -- what stands at a key in two lists
  pub append_at : (xs ys : List (A × X)) (k : List ℕ) → table_from_rows key value (xs ++ ys) k ≡ or_else (table_from_rows key value xs k) (table_from_rows key value ys k)
  append_at [] ys k = refl
  append_at (r ∷ rs) ys k = pick (same_key (key r.0) k) (append_at rs ys k)
    where
      pick : (s : Bool) → table_from_rows key value (rs ++ ys) k ≡ or_else (table_from_rows key value rs k) (table_from_rows key value ys k) → cond s (Some (value r.1)) (table_from_rows key value (rs ++ ys) k) ≡ or_else (cond s (Some (value r.1)) (table_from_rows key value rs k)) (table_from_rows key value ys k)
      pick true rest = refl
      pick false rest = rest

  -- a row put at its key
  pub table_with : (row : A × X) (rows : List (A × X)) → table_from_rows key value (with_row key row rows) ≡ set_key (table_from_rows key value rows) (key row.0) (Some (value row.1))
  table_with row rows = λ i k. at k i
    where
      k0 : List ℕ
      k0 = key row.0

      low : List (A × X)
      low = filter (λ r. is_before (key r.0) k0) rows

      high : List (A × X)
      high = filter (λ r. is_before k0 (key r.0)) rows

      all : (o : Ordering) (x : Option (List ℕ)) → or_else (cond (is_lt (ordering_reverse o)) x None) (cond (is_eq o) (Some (value row.1)) (cond (is_lt o) x None)) ≡ cond (is_eq o) (Some (value row.1)) x
      all Less x = refl
      all Equal x = refl
      all Greater None = refl
      all Greater (Some v) = refl

      at : (k : List ℕ) → table_from_rows key value (with_row key row rows) k ≡ set_key (table_from_rows key value rows) k0 (Some (value row.1)) k
      at k =
          append_at low (row ∷ high) k
          ∙ ap (λ (o : Option (List ℕ)). or_else o (table_from_rows key value (row ∷ high) k)) (filter_at (λ r. is_before (key r.0) k0) k (is_before k k0) (λ r e. ap (λ (q : List ℕ). is_before q k0) e) rows)
          ∙ ap (λ (o : Option (List ℕ)). or_else (cond (is_before k k0) (table_from_rows key value rows k) None) (cond (same_key k0 k) (Some (value row.1)) o)) (filter_at (λ r. is_before k0 (key r.0)) k (is_before k0 k) (λ r e. ap (λ (q : List ℕ). is_before k0 q) e) rows)
          ∙ ap (λ (o : Ordering). or_else (cond (is_lt o) (table_from_rows key value rows k) None) (cond (same_key k0 k) (Some (value row.1)) (cond (is_before k0 k) (table_from_rows key value rows k) None))) (order.antisymm k k0)
          ∙ all (bytes_cmp k0 k) (table_from_rows key value rows k)

  -- a row taken from its key
  pub table_without : (k : List ℕ) (rows : List (A × X)) → table_from_rows key value (without_row key k rows) ≡ set_key (table_from_rows key value rows) k None
  table_without k rows = λ i q. at q i
    where
      turn : (s : Bool) (x : Option (List ℕ)) → cond (not s) x None ≡ cond s None x
      turn true x = refl
      turn false x = refl

      at : (q : List ℕ) → table_from_rows key value (without_row key k rows) q ≡ set_key (table_from_rows key value rows) k None q
      at q =
          filter_at (λ r. not (same_key (key r.0) k)) q (not (same_key q k)) (λ r e. ap (λ (l : List ℕ). not (same_key l k)) e) rows
          ∙ turn (same_key q k) (table_from_rows key value rows q)
          ∙ ap (λ (s : Bool). cond s None (table_from_rows key value rows q)) ((eq_by_cmp_equiv order).symm q k)

  -- without a row at the key the rows stay
  pub without_absent : (k : List ℕ) (rows : List (A × X)) → table_from_rows key value rows k ≡ None → without_row key k rows ≡ rows
  without_absent k rows none = filter_all (λ r. not (same_key (key r.0) k)) rows (all_weaker (λ r. key r.0 ≢ k) (λ r. not (same_key (key r.0) k) ≡ true) rows (λ r ne. apart (key r.0) ne (same_key (key r.0) k) refl) (no_row_at key value rows k none))
    where
      apart : (l : List ℕ) → l ≢ k → (s : Bool) → same_key l k ≡ s → not (same_key l k) ≡ true
      apart l ne true e = absurd (ne (same_is l k e))
      apart l ne false e = ap not e

module _ {A X : Type 0} (key : A → List ℕ) where
  -- rising rows, a row after them all, and rising rows after that
  rises_around : (xs : List (A × X)) (r : A × X) (ys : List (A × X)) → IsRising key xs → AllBefore key (key r.0) xs → IsRising key (r ∷ ys) → IsRising key (xs ++ r ∷ ys)
  rises_around [] r ys rise before rest = rest
  rises_around (q ∷ qs) r ys rise before rest = (
    all_append (λ s. bytes_cmp (key q.0) (key s.0) ≡ Less) qs (r ∷ ys) rise.0 (before.0, all_weaker (λ s. bytes_cmp (key r.0) (key s.0) ≡ Less) (λ s. bytes_cmp (key q.0) (key s.0) ≡ Less) ys (λ s lt. order.trans (key q.0) (key r.0) (key s.0) before.0 lt) rest.0),
    rises_around qs r ys rise.1 before.1 rest,
  )

  -- rising rows with a row at its key rise
  pub rises_with : (row : A × X) (rows : List (A × X)) → IsRising key rows → IsRising key (with_row key row rows)
  rises_with row rows rise =
      let low : A × X → Bool = λ r. is_before (key r.0) (key row.0) in
      let high : A × X → Bool = λ r. is_before (key row.0) (key r.0) in
      rises_around (filter low rows) row (filter high rows) (filter_rises key low rows rise)
      (all_weaker (λ r. low r ≡ true) (λ r. bytes_cmp (key r.0) (key row.0) ≡ Less) (filter low rows) (λ r e. is_less (bytes_cmp (key r.0) (key row.0)) e) (all_kept low rows))
      (all_weaker (λ r. high r ≡ true) (λ r. bytes_cmp (key row.0) (key r.0) ≡ Less) (filter high rows) (λ r e. is_less (bytes_cmp (key row.0) (key r.0)) e) (all_kept high rows), filter_rises key high rows rise)

  -- rising rows without a row rise
  pub rises_without : (k : List ℕ) (rows : List (A × X)) → IsRising key rows → IsRising key (without_row key k rows)
  rises_without k rows rise = filter_rises key (λ r. not (same_key (key r.0) k)) rows rise

  -- around one of rising rows, those in front are before it, and those behind it are after it
  pub rising_split : (front : List (A × X)) (r : A × X) (back : List (A × X)) → IsRising key (front ++ r ∷ back) → AllBefore key (key r.0) front × AllAfter key (key r.0) back
  rising_split [] r back rise = (tt, rise.0)
  rising_split (q ∷ qs) r back rise = let rest = rising_split qs r back rise.1 in ((later qs rise.0, rest.0), rest.1)
    where
      later : (xs : List (A × X)) → AllAfter key (key q.0) (xs ++ r ∷ back) → bytes_cmp (key q.0) (key r.0) ≡ Less
      later [] after = after.0
      later (x ∷ xs) after = later xs after.1

  -- the others of rising rows
  pub without_split : (row : A × X) (front back : List (A × X)) → IsRising key (front ++ row ∷ back) → without_row key (key row.0) (front ++ row ∷ back) ≡ front ++ back
  without_split row front back rise =
      let k = key row.0 in
      let p : A × X → Bool = λ r. not (same_key (key r.0) k) in
      let parts = rising_split front row back rise in
      let fronts = filter_all p front (all_weaker (λ r. bytes_cmp (key r.0) k ≡ Less) (λ r. p r ≡ true) front (λ r lt. ap not (differ (key r.0) k lt)) parts.0) in
      let backs = filter_all p back (all_weaker (λ r. bytes_cmp k (key r.0) ≡ Less) (λ r. p r ≡ true) back (λ r lt. ap not (ap is_eq (order.antisymm (key r.0) k ∙ ap ordering_reverse lt))) parts.1) in
      filter-append p front (row ∷ back)
      ∙ ap (λ (b : Bool). filter p front ++ cond b (row ∷ filter p back) (filter p back)) (ap not (same_itself k))
      ∙ ap (λ (xs : List (A × X)). xs ++ filter p back) fronts
      ∙ ap (λ (xs : List (A × X)). front ++ xs) backs
