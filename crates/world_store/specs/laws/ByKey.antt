-- Entries in the order of their keys make rows that rise: proofs, and nothing to believe.
use Rattle.std.proofs.Common.{◌≡◌, ℕ, ◌≤◌, ◌+◌, Bool, true, false, cond, List, [], ◌∷◌, length, refl, sym, ap, subst, ◌∙◌, arith, T, ◌||◌, fold, Option, Some, None, is_some, option_map, Ordering, Less, Equal, Greater}
use Rattle.std.specs.List.{AllByRecursion, list_any}
use Rattle.std.specs.Ordering.{is_eq, ordering_reverse, eq_by_cmp}
use Rattle.std.specs.Cmp.{IsTotalOrder}
use Rattle.std.specs.FinMap.Entries.{by_order, find, put, is_sorted, is_sorted-put, find-put}
use Rattle.row_codec.specs.Spelling.{Any}
use Rattle.repl_model.specs.Words.{bytes_cmp, by_key, all_of}
use Rattle.rows_in_order.specs.Rows.{table_from_rows, IsRising}
use Rattle.rows_in_order.specs.laws.Before.{order}
use Rattle.world_store.specs.SpelledRows.{RowFits}
use Rattle.world_store.specs.laws.PutTables.{sorted_rises}

-- sameness doesn't ask which comes first
same_either : (o : Ordering) → is_eq (ordering_reverse o) ≡ is_eq o
same_either Less = refl
same_either Equal = refl
same_either Greater = refl

-- keys in the order of their spellings
abbrev pub spelled_cmp : {K : Type 0} → (K → List ℕ) → K → K → Ordering
spelled_cmp key x y = bytes_cmp (key x) (key y)

-- that is a total order
pub spelled_order : {K : Type 0} (key : K → List ℕ) → IsTotalOrder (spelled_cmp key)
spelled_order key = record {
  antisymm = λ x y. order.antisymm (key x) (key y);
  trans = λ x y z. order.trans (key x) (key y) (key z);
  congr = λ x y z. order.congr (key x) (key y) (key z);
}

module _ {K X : Type 0} (key : K → List ℕ) where
  -- what stands at a key is what is found there
  table_finds : (value : X → List ℕ) (q : K) (rows : List (K × X)) → table_from_rows key value rows (key q) ≡ option_map value (find (spelled_cmp key) q rows)
  table_finds value q [] = refl
  table_finds value q (r ∷ rs) =
      ap (λ (t : Bool). cond t (Some (value r.1)) (table_from_rows key value rs (key q))) (ap is_eq (order.antisymm (key r.0) (key q)) ∙ same_either (bytes_cmp (key q) (key r.0)))
      ∙ ap (cond (eq_by_cmp (spelled_cmp key) q r.0) (Some (value r.1))) (table_finds value q rs)
      ∙ push (eq_by_cmp (spelled_cmp key) q r.0)
    where
      push : (t : Bool) → cond t (Some (value r.1)) (option_map value (find (spelled_cmp key) q rs)) ≡ option_map value (cond t (Some r.1) (find (spelled_cmp key) q rs))
      push true = refl
      push false = refl

  -- ---- a fold of puts

  -- entries that are put one after another
  abbrev puts : (K → K → Ordering) → List (K × X) → List (K × X) → List (K × X)
  puts cmp rows entries = fold (λ sorted e. put cmp e.0 e.1 sorted) rows entries

  -- they stay sorted
  puts_sorted : (entries rows : List (K × X)) → T (is_sorted (spelled_cmp key) rows) → T (is_sorted (spelled_cmp key) (puts (spelled_cmp key) rows entries))
  puts_sorted [] rows sorted = sorted
  puts_sorted (e ∷ es) rows sorted = puts_sorted es (put (spelled_cmp key) e.0 e.1 rows) (is_sorted-put (spelled_cmp key) (spelled_order key) e.0 e.1 rows sorted)

  -- a put adds one at most
  put_longer : (cmp : K → K → Ordering) (k : K) (v : X) (rows : List (K × X)) → length (put cmp k v rows) ≤ length rows + 1
  put_longer cmp k v [] = omega arith
  put_longer cmp k v (r ∷ rs) = pick (cmp k r.0) (put_longer cmp k v rs)
    where
      pick : (o : Ordering) → length (put cmp k v rs) ≤ length rs + 1 → length (by_order o ((k, v) ∷ r ∷ rs) ((r.0, v) ∷ rs) (r ∷ put cmp k v rs)) ≤ length (r ∷ rs) + 1
      pick Less le = omega arith
      pick Equal le = omega arith
      pick Greater le = omega arith

  puts_longer : (cmp : K → K → Ordering) (entries rows : List (K × X)) → length (puts cmp rows entries) ≤ length rows + length entries
  puts_longer cmp [] rows = omega arith
  puts_longer cmp (e ∷ es) rows = omega (arith, puts_longer cmp es (put cmp e.0 e.1 rows), put_longer cmp e.0 e.1 rows)

  -- what is found after puts is what was put, or was there
  puts_find : (q : K) (entries rows : List (K × X)) → is_some (find (spelled_cmp key) q (puts (spelled_cmp key) rows entries)) ≡ (list_any (λ e. eq_by_cmp (spelled_cmp key) q e.0) entries || is_some (find (spelled_cmp key) q rows))
  puts_find q [] rows = refl
  puts_find q (e ∷ es) rows =
      puts_find q es (put (spelled_cmp key) e.0 e.1 rows)
      ∙ ap (λ (o : Option X). list_any (λ (d : K × X). eq_by_cmp (spelled_cmp key) q d.0) es || is_some o) (find-put (spelled_cmp key) (spelled_order key) q e.0 e.1 rows)
      ∙ pick (eq_by_cmp (spelled_cmp key) q e.0) (list_any (λ (d : K × X). eq_by_cmp (spelled_cmp key) q d.0) es)
    where
      pick : (t u : Bool) → (u || is_some (cond t (Some e.1) (find (spelled_cmp key) q rows))) ≡ ((t || u) || is_some (find (spelled_cmp key) q rows))
      pick true true = refl
      pick true false = refl
      pick false true = refl
      pick false false = refl

  module _ (key_fits : K → Type 0) (fits : X → Type 0) where
    -- what holds of keys and of values holds of rows after a put
    put_fits : (cmp : K → K → Ordering) (k : K) (v : X) (rows : List (K × X)) → key_fits k → fits v → AllByRecursion (RowFits key_fits fits) rows → AllByRecursion (RowFits key_fits fits) (put cmp k v rows)
    put_fits cmp k v [] fk fv all = ((fk, fv), tt)
    put_fits cmp k v (r ∷ rs) fk fv all = pick (cmp k r.0) (put_fits cmp k v rs fk fv all.1)
      where
        pick : (o : Ordering) → AllByRecursion (RowFits key_fits fits) (put cmp k v rs) → AllByRecursion (RowFits key_fits fits) (by_order o ((k, v) ∷ r ∷ rs) ((r.0, v) ∷ rs) (r ∷ put cmp k v rs))
        pick Less rest = ((fk, fv), all)
        pick Equal rest = ((all.0.0, fv), all.1)
        pick Greater rest = (all.0, rest)

    puts_fit : (cmp : K → K → Ordering) (entries rows : List (K × X)) → AllByRecursion (RowFits key_fits fits) entries → AllByRecursion (RowFits key_fits fits) rows → AllByRecursion (RowFits key_fits fits) (puts cmp rows entries)
    puts_fit cmp [] rows all more = more
    puts_fit cmp (e ∷ es) rows all more = puts_fit cmp es (put cmp e.0 e.1 rows) all.1 (put_fits cmp e.0 e.1 rows all.0.0 all.0.1 more)

    module _ (cmp : K → K → Ordering) (in_order : (x y : K) → key_fits x → key_fits y → bytes_cmp (key x) (key y) ≡ cmp x y) where
      -- a put by the order of the keys is one by their spellings
      put_alike : (k : K) (v : X) (rows : List (K × X)) → key_fits k → AllByRecursion (RowFits key_fits fits) rows → put cmp k v rows ≡ put (spelled_cmp key) k v rows
      put_alike k v [] fk all = refl
      put_alike k v (r ∷ rs) fk all =
          ap (λ (o : Ordering). by_order o ((k, v) ∷ r ∷ rs) ((r.0, v) ∷ rs) (r ∷ put cmp k v rs)) (sym (in_order k r.0 fk all.0.0))
          ∙ ap (λ (l : List (K × X)). by_order (spelled_cmp key k r.0) ((k, v) ∷ r ∷ rs) ((r.0, v) ∷ rs) (r ∷ l)) (put_alike k v rs fk all.1)

      puts_alike : (entries rows : List (K × X)) → AllByRecursion (RowFits key_fits fits) entries → AllByRecursion (RowFits key_fits fits) rows → puts cmp rows entries ≡ puts (spelled_cmp key) rows entries
      puts_alike [] rows all more = refl
      puts_alike (e ∷ es) rows all more =
          ap (λ (l : List (K × X)). puts cmp l es) (put_alike e.0 e.1 rows all.0.0 more)
          ∙ puts_alike es (put (spelled_cmp key) e.0 e.1 rows) all.1 (put_fits (spelled_cmp key) e.0 e.1 rows all.0.0 all.0.1 more)

      -- ---- entries by their keys

      -- entries in the order of their keys rise
      pub by_key_rises : (entries : List (K × X)) → AllByRecursion (RowFits key_fits fits) entries → IsRising key (by_key cmp entries)
      unfolding by_key
      by_key_rises entries all = subst (IsRising key) (sym (puts_alike entries [] all tt)) (sorted_rises key Any (spelled_cmp key) (λ x y _ _. refl) (puts (spelled_cmp key) [] entries) (all_of (λ r. Any r.0) (puts (spelled_cmp key) [] entries) (λ r. tt)) (puts_sorted entries [] tt))

      -- what holds of all entries holds of them
      pub by_key_fits : (entries : List (K × X)) → AllByRecursion (RowFits key_fits fits) entries → AllByRecursion (RowFits key_fits fits) (by_key cmp entries)
      unfolding by_key
      by_key_fits entries all = puts_fit cmp entries [] all tt

      -- they are no more
      pub by_key_few : (entries : List (K × X)) → length (by_key cmp entries) ≤ length entries
      unfolding by_key
      by_key_few entries = omega (arith, puts_longer cmp entries [])

      -- at a key something stands if an entry has it
      pub by_key_has : (value : X → List ℕ) (q : K) (entries : List (K × X)) → AllByRecursion (RowFits key_fits fits) entries → is_some (table_from_rows key value (by_key cmp entries) (key q)) ≡ list_any (λ e. eq_by_cmp (spelled_cmp key) q e.0) entries
      unfolding by_key
      by_key_has value q entries all =
          ap (λ (l : List (K × X)). is_some (table_from_rows key value l (key q))) (puts_alike entries [] all tt)
          ∙ ap is_some (table_finds value q (puts (spelled_cmp key) [] entries))
          ∙ mapped (find (spelled_cmp key) q (puts (spelled_cmp key) [] entries))
          ∙ puts_find q entries []
          ∙ or_none (list_any (λ (e : K × X). eq_by_cmp (spelled_cmp key) q e.0) entries)
        where
          mapped : (o : Option X) → is_some (option_map value o) ≡ is_some o
          mapped None = refl
          mapped (Some x) = refl

          or_none : (t : Bool) → (t || false) ≡ t
          or_none true = refl
          or_none false = refl
