-- The stored table of entries that are put in the order of their keys.
use Rattle.std.proofs.Common.{◌≡◌, ℕ, Bool, true, false, cond, List, [], ◌∷◌, refl, sym, ap, ◌∙◌, T, ◌&&◌, not, Option, Some, None, option_map, Ordering, Less, Equal, Greater}
use Rattle.std.specs.List.{AllByRecursion}
use Rattle.std.specs.Cmp.{IsTotalOrder, eq_by_cmp_equiv}
use Rattle.std.specs.FinMap.Entries.{by_order, find, put, where_key, below_all, is_sorted}
use Rattle.std.specs.Ordering.{is_lt, is_eq, eq_by_cmp}
use Rattle.std.proofs.lemmas.Map.Lookups.{exact_bytes}
use Rattle.rows_in_order.specs.Contents.{same_key, set_key}
use Rattle.repl_model.specs.Words.{bytes_cmp, all_weaker, filter_alike}
use Rattle.rows_in_order.specs.Rows.{table_from_rows, AllAfter, IsRising}
use Rattle.rows_in_order.specs.laws.Before.{tied_not_greater}
use Rattle.rows_in_order.specs.laws.Changed.{table_without}
use Rattle.rows_in_order.specs.laws.Rising.{same_is}

-- a test of two that both pass
pub both_pass : (a b : Bool) → T (a && b) → T a × T b
both_pass true b e = (tt, e)
both_pass false b e = absurd e

-- a test for less
pub is_less : (o : Ordering) → T (is_lt o) → o ≡ Less
is_less Less e = refl
is_less Equal e = absurd e
is_less Greater e = absurd e

-- the keys of all entries fit
abbrev pub KeysFit : {K X : Type 0} → (K → Type 0) → List (K × X) → Type 0
KeysFit key_fits rows = AllByRecursion (λ r. key_fits r.0) rows

module _ {K X : Type 0} (key : K → List ℕ) (key_fits : K → Type 0) (cmp : K → K → Ordering) (in_order : (x y : K) → key_fits x → key_fits y → bytes_cmp (key x) (key y) ≡ cmp x y) where
  -- sorted entries rise
  pub sorted_rises : (rows : List (K × X)) → KeysFit key_fits rows → T (is_sorted cmp rows) → IsRising key rows
  sorted_rises [] all sorted = tt
  sorted_rises (r ∷ rs) all sorted = let parts = both_pass (below_all cmp r.0 rs) (is_sorted cmp rs) sorted in (after rs all.1 parts.0, sorted_rises rs all.1 parts.1)
    where
      after : (rows : List (K × X)) → KeysFit key_fits rows → T (below_all cmp r.0 rows) → AllAfter key (key r.0) rows
      after [] all below = tt
      after (q ∷ qs) all1 below =
          let parts = both_pass (is_lt (cmp r.0 q.0)) (below_all cmp r.0 qs) below in
          (in_order r.0 q.0 all.0 all1.0 ∙ is_less (cmp r.0 q.0) parts.0, after qs all1.1 parts.1)

  module _ (value : X → List ℕ) where
    -- what is put stands at its key, and the rest as it did
    put_at_key : (k : K) (v : X) (rows : List (K × X)) (q : List ℕ) → key_fits k → KeysFit key_fits rows → table_from_rows key value (put cmp k v rows) q ≡ set_key (table_from_rows key value rows) (key k) (Some (value v)) q
    put_at_key k v [] q fits all = refl
    put_at_key k v (r ∷ rs) q fits all = by_cmp (cmp k r.0) (in_order k r.0 fits all.0) (put_at_key k v rs q fits all.1)
      where
        rest : Option (List ℕ)
        rest = table_from_rows key value rs q

        hidden : (b : Bool) → cond b (Some (value v)) rest ≡ cond b (Some (value v)) (cond b (Some (value r.1)) rest)
        hidden true = refl
        hidden false = refl

        turned : (a b : Bool) → (a ≡ true → b ≡ true → ⊥) → cond a (Some (value r.1)) (cond b (Some (value v)) rest) ≡ cond b (Some (value v)) (cond a (Some (value r.1)) rest)
        turned true true apart = absurd (apart refl refl)
        turned true false apart = refl
        turned false b apart = refl

        by_cmp : (o : Ordering) → bytes_cmp (key k) (key r.0) ≡ o → table_from_rows key value (put cmp k v rs) q ≡ cond (same_key (key k) q) (Some (value v)) rest
            → table_from_rows key value (by_order o ((k, v) ∷ r ∷ rs) ((r.0, v) ∷ rs) (r ∷ put cmp k v rs)) q ≡ cond (same_key (key k) q) (Some (value v)) (cond (same_key (key r.0) q) (Some (value r.1)) rest)
        by_cmp Less e later = refl
        by_cmp Equal e later =
            let same : key k ≡ key r.0 = exact_bytes (key k) (key r.0) e in
            hidden (same_key (key r.0) q) ∙ ap (λ (l : List ℕ). cond (same_key l q) (Some (value v)) (cond (same_key (key r.0) q) (Some (value r.1)) rest)) (sym same)
        by_cmp Greater e later =
            ap (cond (same_key (key r.0) q) (Some (value r.1))) later
            ∙ turned (same_key (key r.0) q) (same_key (key k) q) (λ a b. tied_not_greater (key k) (key r.0) (same_is (key k) q b ∙ sym (same_is (key r.0) q a)) e)

    -- the table after an entry is put
    pub put_table : (k : K) (v : X) (rows : List (K × X)) → key_fits k → KeysFit key_fits rows → table_from_rows key value (put cmp k v rows) ≡ set_key (table_from_rows key value rows) (key k) (Some (value v))
    put_table k v rows fits all = λ i q. put_at_key k v rows q fits all i

module _ {K X : Type 0} (key : K → List ℕ) (key_fits : K → Type 0) (cmp : K → K → Ordering) (total : IsTotalOrder cmp) (in_order : (x y : K) → key_fits x → key_fits y → bytes_cmp (key x) (key y) ≡ cmp x y) (value : X → List ℕ) where
  -- what stands at the spelling of a key is what is found at the key
  pub table_finds : (q : K) (rows : List (K × X)) → key_fits q → KeysFit key_fits rows → table_from_rows key value rows (key q) ≡ option_map value (find cmp q rows)
  table_finds q [] fits all = refl
  table_finds q (r ∷ rs) fits all =
      ap (λ (t : Bool). cond t (Some (value r.1)) (table_from_rows key value rs (key q))) (ap is_eq (in_order r.0 q all.0 fits) ∙ (eq_by_cmp_equiv total).symm r.0 q)
      ∙ ap (cond (eq_by_cmp cmp q r.0) (Some (value r.1))) (table_finds q rs fits all.1)
      ∙ push (eq_by_cmp cmp q r.0)
    where
      push : (t : Bool) → cond t (Some (value r.1)) (option_map value (find cmp q rs)) ≡ option_map value (cond t (Some r.1) (find cmp q rs))
      push true = refl
      push false = refl

  -- the table after the entry of a key is removed
  pub removed_table : (k : K) (rows : List (K × X)) → key_fits k → KeysFit key_fits rows → table_from_rows key value (where_key cmp (λ x. not (eq_by_cmp cmp k x)) rows) ≡ set_key (table_from_rows key value rows) (key k) None
  removed_table k rows fits all =
      ap (table_from_rows key value) (filter_alike (λ r. not (eq_by_cmp cmp k r.0)) (λ r. not (same_key (key r.0) (key k))) rows
      (all_weaker (λ r. key_fits r.0) (λ r. not (eq_by_cmp cmp k r.0) ≡ not (same_key (key r.0) (key k))) rows (λ r fit. ap not ((eq_by_cmp_equiv total).symm k r.0 ∙ sym (ap is_eq (in_order r.0 k fit fits)))) all))
      ∙ table_without key value (key k) rows
