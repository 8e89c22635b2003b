-- Entries that are put in the order of their keys: which they are.
use Rattle.std.proofs.Common.{◌≡◌, Bool, true, false, cond, List, [], ◌∷◌, ◌++◌, refl, sym, ap, subst, ◌∙◌, append_assoc, T, ◌&&◌, fold, Option, Some, None, Ordering, Less, Equal, Greater}
use Rattle.std.specs.List.{AllByRecursion}
use Rattle.std.specs.Cmp.{IsTotalOrder}
use Rattle.std.specs.FinMap.{IsAntisymmetric}
use Rattle.std.specs.FinMap.Entries.{by_order, find, put, where_key, below_all, is_sorted, is_sorted-put, is_sorted-where_key, find-put, find-where_key, same_entries}
use Rattle.std.specs.Ordering.{is_lt, eq_by_cmp, ordering_reverse}
use Rattle.std.proofs.lemmas.List.Sums.{fold_push}
use Rattle.world_store.specs.Words.{is_equal, is_less, both_pass}
use Rattle.repl_model.specs.Words.{by_key}

-- and the other way round
pub pass_both : (a b : Bool) → T a → T b → T (a && b)
pass_both true b p q = q
pass_both false b p q = absurd p

-- keys that tie pass a test alike
alike : {K : Type 0} (cmp : K → K → Ordering) → IsAntisymmetric cmp → (p : K → Bool) (q x : K) → cmp q x ≡ Equal → p x ≡ p q
alike cmp exact p q x e = ap p (sym (exact q x e))

module _ {K X : Type 0} (cmp : K → K → Ordering) (total : IsTotalOrder cmp) (exact : IsAntisymmetric cmp) where
  -- ---- what holds of each entry

  -- what holds of a new entry and of each other holds of each after a put
  pub put_all : (P : K × X → Type 0) (k : K) (v : X) (rows : List (K × X)) → P (k, v) → AllByRecursion P rows → AllByRecursion P (put cmp k v rows)
  put_all P k v [] one all = (one, tt)
  put_all P k v (r ∷ rs) one all = by_cmp (cmp k r.0) refl (put_all P k v rs one all.1)
    where
      by_cmp : (o : Ordering) → cmp k r.0 ≡ o → AllByRecursion P (put cmp k v rs) → AllByRecursion P (by_order o ((k, v) ∷ r ∷ rs) ((r.0, v) ∷ rs) (r ∷ put cmp k v rs))
      by_cmp Less e rest = (one, all)
      by_cmp Equal e rest = (subst (λ (q : K). P (q, v)) (exact k r.0 e) one, all.1)
      by_cmp Greater e rest = (all.0, rest)

  -- ---- one put after another

  -- entries that are put one after another
  abbrev puts : List (K × X) → List (K × X) → List (K × X)
  puts rows entries = fold (λ sorted e. put cmp e.0 e.1 sorted) rows entries

  -- it holds of each after puts
  puts_all : (P : K × X → Type 0) (entries rows : List (K × X)) → AllByRecursion P entries → AllByRecursion P rows → AllByRecursion P (puts rows entries)
  puts_all P [] rows all more = more
  puts_all P (e ∷ es) rows all more = puts_all P es (put cmp e.0 e.1 rows) all.1 (put_all P e.0 e.1 rows all.0 more)

  -- sorted entries stay sorted
  puts_sorted : (entries rows : List (K × X)) → T (is_sorted cmp rows) → T (is_sorted cmp (puts rows entries))
  puts_sorted [] rows sorted = sorted
  puts_sorted (e ∷ es) rows sorted = puts_sorted es (put cmp e.0 e.1 rows) (is_sorted-put cmp total e.0 e.1 rows sorted)

  -- what holds of each entry holds of each in the order of the keys
  pub by_key_all : (P : K × X → Type 0) (entries : List (K × X)) → AllByRecursion P entries → AllByRecursion P (by_key cmp entries)
  unfolding by_key
  by_key_all P entries all = puts_all P entries [] all tt

  -- they are sorted
  pub by_key_sorted : (entries : List (K × X)) → T (is_sorted cmp (by_key cmp entries))
  unfolding by_key
  by_key_sorted entries = puts_sorted entries [] tt

  -- one more entry is put at its key
  pub by_key_push : (entries : List (K × X)) (e : K × X) → by_key cmp (entries ++ e ∷ []) ≡ put cmp e.0 e.1 (by_key cmp entries)
  unfolding by_key
  by_key_push entries e = fold_push (λ sorted e. put cmp e.0 e.1 sorted) [] entries e

  -- ---- entries in order already

  -- an entry after all others is put at the end
  put_last : (rows : List (K × X)) (e : K × X) (es : List (K × X)) → T (is_sorted cmp (rows ++ e ∷ es)) → put cmp e.0 e.1 rows ≡ rows ++ e ∷ []
  put_last [] e es sorted = refl
  put_last (r ∷ rs) e es sorted =
      let parts = both_pass (below_all cmp r.0 (rs ++ e ∷ es)) (is_sorted cmp (rs ++ e ∷ es)) sorted in
      ap (λ (o : Ordering). by_order o (e ∷ r ∷ rs) ((r.0, e.1) ∷ rs) (r ∷ put cmp e.0 e.1 rs)) (total.antisymm e.0 r.0 ∙ ap ordering_reverse (is_less (cmp r.0 e.0) (later rs parts.0)))
      ∙ ap (λ (l : List (K × X)). r ∷ l) (put_last rs e es parts.1)
    where
      later : (rs : List (K × X)) → T (below_all cmp r.0 (rs ++ e ∷ es)) → T (is_lt (cmp r.0 e.0))
      later [] below = (both_pass (is_lt (cmp r.0 e.0)) (below_all cmp r.0 es) below).0
      later (q ∷ qs) below = later qs (both_pass (is_lt (cmp r.0 q.0)) (below_all cmp r.0 (qs ++ e ∷ es)) below).1

  -- entries that are sorted are put one after another at the end
  puts_last : (entries rows : List (K × X)) → T (is_sorted cmp (rows ++ entries)) → puts rows entries ≡ rows ++ entries
  puts_last [] rows sorted = sym (none rows)
    where
      none : (rows : List (K × X)) → rows ++ [] ≡ rows
      none [] = refl
      none (r ∷ rs) = ap (λ (l : List (K × X)). r ∷ l) (none rs)
  puts_last (e ∷ es) rows sorted =
      ap (λ (l : List (K × X)). puts l es) (put_last rows e es sorted)
      ∙ puts_last es (rows ++ e ∷ []) (subst (λ (l : List (K × X)). T (is_sorted cmp l)) (sym (append_assoc rows (e ∷ []) es)) sorted)
      ∙ append_assoc rows (e ∷ []) es

  -- entries that are sorted stay
  pub by_key_same : (entries : List (K × X)) → T (is_sorted cmp entries) → by_key cmp entries ≡ entries
  unfolding by_key
  by_key_same entries sorted = puts_last entries [] sorted

  -- ---- a part of the entries

  module _ (p : K → Bool) where
    -- what is kept after a put is what was kept, with the new entry if its key passes the test
    kept_put : (k : K) (v : X) (rows : List (K × X)) → T (is_sorted cmp rows) → where_key cmp p (put cmp k v rows) ≡ cond (p k) (put cmp k v (where_key cmp p rows)) (where_key cmp p rows)
    kept_put k v rows sorted = by_test (p k) refl
      where
        kept : List (K × X)
        kept = where_key cmp p rows

        now_sorted : T (is_sorted cmp (where_key cmp p (put cmp k v rows)))
        now_sorted = is_sorted-where_key cmp p (put cmp k v rows) (is_sorted-put cmp total k v rows sorted)

        kept_sorted : T (is_sorted cmp kept)
        kept_sorted = is_sorted-where_key cmp p rows sorted

        found : (q : K) → find cmp q (where_key cmp p (put cmp k v rows)) ≡ cond (p q) (cond (eq_by_cmp cmp q k) (Some v) (find cmp q rows)) None
        found q = find-where_key cmp p q (alike cmp exact p q) (put cmp k v rows) ∙ ap (λ (o : Option X). cond (p q) o None) (find-put cmp total q k v rows)

        -- the test at a key that ties with the new one
        tied : (q : K) → eq_by_cmp cmp q k ≡ true → p q ≡ p k
        tied q e = sym (alike cmp exact p q k (is_equal (cmp q k) e))

        by_test : (t : Bool) → p k ≡ t → where_key cmp p (put cmp k v rows) ≡ cond t (put cmp k v kept) kept
        by_test true e = same_entries cmp total exact (where_key cmp p (put cmp k v rows)) (put cmp k v kept) now_sorted (is_sorted-put cmp total k v kept kept_sorted) (λ q.
            found q ∙ turned q (eq_by_cmp cmp q k) refl ∙ sym (find-put cmp total q k v kept ∙ ap (cond (eq_by_cmp cmp q k) (Some v)) (find-where_key cmp p q (alike cmp exact p q) rows)))
          where
            turned : (q : K) (b : Bool) → eq_by_cmp cmp q k ≡ b → cond (p q) (cond b (Some v) (find cmp q rows)) None ≡ cond b (Some v) (cond (p q) (find cmp q rows) None)
            turned q true same = ap (λ (u : Bool). cond u (Some v) None) (tied q same ∙ e)
            turned q false same = refl
        by_test false e = same_entries cmp total exact (where_key cmp p (put cmp k v rows)) kept now_sorted kept_sorted (λ q.
            found q ∙ gone q (eq_by_cmp cmp q k) refl ∙ sym (find-where_key cmp p q (alike cmp exact p q) rows))
          where
            gone : (q : K) (b : Bool) → eq_by_cmp cmp q k ≡ b → cond (p q) (cond b (Some v) (find cmp q rows)) None ≡ cond (p q) (find cmp q rows) None
            gone q true same = ap (λ (u : Bool). cond u (Some v) None) (tied q same ∙ e) ∙ sym (ap (λ (u : Bool). cond u (find cmp q rows) None) (tied q same ∙ e))
            gone q false same = refl

    -- what is kept after puts is what was kept, with those that pass the test
    kept_puts : (entries rows : List (K × X)) → T (is_sorted cmp rows) → where_key cmp p (puts rows entries) ≡ puts (where_key cmp p rows) (where_key cmp p entries)
    kept_puts [] rows sorted = refl
    kept_puts (e ∷ es) rows sorted =
        kept_puts es (put cmp e.0 e.1 rows) (is_sorted-put cmp total e.0 e.1 rows sorted)
        ∙ ap (λ (l : List (K × X)). puts l (where_key cmp p es)) (kept_put e.0 e.1 rows sorted)
        ∙ by_test (p e.0)
      where
        by_test : (t : Bool) → puts (cond t (put cmp e.0 e.1 (where_key cmp p rows)) (where_key cmp p rows)) (where_key cmp p es) ≡ puts (where_key cmp p rows) (cond t (e ∷ where_key cmp p es) (where_key cmp p es))
        by_test true = refl
        by_test false = refl

    -- the entries whose keys pass a test, in the order of their keys
    pub by_key_kept : (entries : List (K × X)) → where_key cmp p (by_key cmp entries) ≡ by_key cmp (where_key cmp p entries)
    unfolding by_key
    by_key_kept entries = kept_puts entries [] tt
