-- Entries in the order of their keys: what stands in a table of them, and which they are.
use Rattle.std.proofs.Common.{◌≡◌, ◌⊎◌, inl, inr, ℕ, Bool, true, List, [], ◌∷◌, ◌++◌, length, Some, refl, sym, ap, subst, ◌∙◌, arith, not, fold, Ordering, Less, Equal, Greater, length-append, append_assoc, append-nil}
use Rattle.std.specs.List.{AllByRecursion, list_any}
use Rattle.std.specs.FinMap.Entries.{by_order, put}
use Rattle.std.proofs.lemmas.Bool.{and_parts}
use Rattle.std.proofs.lemmas.List.Sums.{fold_push}
use Rattle.std.proofs.lemmas.Map.Lookups.{exact_bytes}
use Rattle.world_store.specs.Words.{Any, put_table, table_from_rows, same_itself, RowFits, by_key_fits, no_rows}
use Rattle.repl_model.specs.Words.{all_weaker, bytes_cmp, all_differ, by_key, In, in_either, in_first, in_second, first_alone}
use Rattle.keep_core.specs.Contents.{Table, same_key, set_key}
use Rattle.load_laws.specs.planned.Planned.{with_rows}

-- The one list has the elements of the other, and as many of them.
pub record HasSame {X : Type 0} (xs ys : List X) : Type 0 where
  pub there : (x : X) → In x xs → In x ys
  pub back : (x : X) → In x ys → In x xs
  pub count : length xs ≡ length ys

-- an element may stand at another place
moved : {X : Type 0} (front back : List X) (x : X) (ys : List X) → HasSame (front ++ back) ys → HasSame (front ++ x ∷ back) (ys ++ x ∷ [])
moved {X} front back x ys same = record {
  there = λ z i. to z (in_either front (x ∷ back) z i);
  back = λ z i. from z (in_either ys (x ∷ []) z i);
  count = counts same.count;
}
  where
    to : (z : X) → In z front ⊎ In z (x ∷ back) → In z (ys ++ x ∷ [])
    to z (inl i) = in_first ys (x ∷ []) z (same.there z (in_first front back z i))
    to z (inr (inl e)) = in_second ys (x ∷ []) z (inl e)
    to z (inr (inr i)) = in_first ys (x ∷ []) z (same.there z (in_second front back z i))

    old : (z : X) → In z front ⊎ In z back → In z (front ++ x ∷ back)
    old z (inl i) = in_first front (x ∷ back) z i
    old z (inr i) = in_second front (x ∷ back) z (inr i)

    from : (z : X) → In z ys ⊎ In z (x ∷ []) → In z (front ++ x ∷ back)
    from z (inl i) = old z (in_either front back z (same.back z i))
    from z (inr (inl e)) = in_second front (x ∷ back) z (inl e)
    from z (inr (inr i)) = absurd i

    counts : length (front ++ back) ≡ length ys → length (front ++ x ∷ back) ≡ length (ys ++ x ∷ [])
    counts e = omega (arith, e, length-append front back, length-append front (x ∷ back), length-append ys (x ∷ []))

-- an element in front isn't like a later one, if no two are alike
front_differs : {X : Type 0} (same : X → X → Bool) (front : List X) (x : X) (back : List X) → all_differ same (front ++ x ∷ back) ≡ true → (y : X) → In y front → same y x ≡ true → ⊥
front_differs same [] x back differ y i e = absurd i
front_differs {X} same (z ∷ zs) x back differ y (inl is) e = first_alone same z (zs ++ x ∷ back) differ x (in_second zs (x ∷ back) x (inl refl)) (ap (λ (w : X). same w x) (sym is) ∙ e)
front_differs same (z ∷ zs) x back differ y (inr i) e = front_differs same zs x back (and_parts (not (list_any (same z) (zs ++ x ∷ back))) (all_differ same (zs ++ x ∷ back)) differ).1 y i e

module _ {K X : Type 0} (key : K → List ℕ) (key_fits : K → Type 0) (cmp : K → K → Ordering) (in_order : (x y : K) → key_fits x → key_fits y → bytes_cmp (key x) (key y) ≡ cmp x y) where
  -- a row whose key no other has gets a place among them
  put_between : (k : K) (v : X) (rows : List (K × X)) → key_fits k → AllByRecursion (RowFits key_fits Any) rows → ((r : K × X) → In r rows → key r.0 ≡ key k → ⊥) → (front : List (K × X)) × (back : List (K × X)) × (rows ≡ front ++ back) × (put cmp k v rows ≡ front ++ (k, v) ∷ back)
  put_between k v [] fits all other = ([], [], refl, refl)
  put_between k v (r ∷ rs) fits all other = by_cmp (cmp k r.0) (in_order k r.0 fits all.0.0) (put_between k v rs fits all.1 (λ q i e. other q (inr i) e))
    where
      by_cmp : (o : Ordering) → bytes_cmp (key k) (key r.0) ≡ o → (front : List (K × X)) × (back : List (K × X)) × (rs ≡ front ++ back) × (put cmp k v rs ≡ front ++ (k, v) ∷ back)
          → (front : List (K × X)) × (back : List (K × X)) × (r ∷ rs ≡ front ++ back) × (by_order o ((k, v) ∷ r ∷ rs) ((r.0, v) ∷ rs) (r ∷ put cmp k v rs) ≡ front ++ (k, v) ∷ back)
      by_cmp Less e rest = ([], r ∷ rs, refl, refl)
      by_cmp Equal e rest = absurd (other r (inl refl) (sym (exact_bytes (key k) (key r.0) e)))
      by_cmp Greater e rest = (r ∷ rest.0, rest.1, ap (λ (l : List (K × X)). r ∷ l) rest.2, ap (λ (l : List (K × X)). r ∷ l) rest.3)

  -- entries that are put after others, in the order of their keys
  abbrev puts_after : List (K × X) → List (K × X) → List (K × X)
  puts_after front back = fold (λ sorted e. put cmp e.0 e.1 sorted) (by_key cmp front) back

  -- one entry more
  one_more : (front : List (K × X)) (e : K × X) → by_key cmp (front ++ e ∷ []) ≡ put cmp e.0 e.1 (by_key cmp front)
  unfolding by_key
  one_more front e = fold_push (λ sorted e. put cmp e.0 e.1 sorted) [] front e

  -- what holds of the entries holds of those in front
  all_front : (front back : List (K × X)) → AllByRecursion (RowFits key_fits Any) (front ++ back) → AllByRecursion (RowFits key_fits Any) front
  all_front [] back all = tt
  all_front (e ∷ es) back all = (all.0, all_front es back all.1)

  -- and of the one behind them
  next_fits : (front : List (K × X)) (e : K × X) (back : List (K × X)) → AllByRecursion (RowFits key_fits Any) (front ++ e ∷ back) → key_fits e.0
  next_fits [] e back all = all.0.0
  next_fits (f ∷ fs) e back all = next_fits fs e back all.1

  -- a table of entries is that in which they are put
  table_of_puts : (value : X → List ℕ) (front back : List (K × X)) → AllByRecursion (RowFits key_fits Any) (front ++ back) → table_from_rows key value (puts_after front back) ≡ with_rows key value back (table_from_rows key value (by_key cmp front))
  table_of_puts value front [] all = refl
  table_of_puts value front (e ∷ es) all =
      ap (λ (rows : List (K × X)). table_from_rows key value (fold (λ sorted e. put cmp e.0 e.1 sorted) rows es)) (sym (one_more front e))
      ∙ table_of_puts value (front ++ e ∷ []) es (subst (AllByRecursion (RowFits key_fits Any)) (sym (append_assoc front (e ∷ []) es)) all)
      ∙ ap (λ (t : Table). with_rows key value es t) (ap (table_from_rows key value) (one_more front e) ∙ put_is)
    where
      put_is : table_from_rows key value (put cmp e.0 e.1 (by_key cmp front)) ≡ set_key (table_from_rows key value (by_key cmp front)) (key e.0) (Some (value e.1))
      put_is = put_table key key_fits cmp in_order value e.0 e.1 (by_key cmp front) (next_fits front e es all)
          (all_weaker (RowFits key_fits Any) (λ r. key_fits r.0) (by_key cmp front) (λ r fit. fit.0) (by_key_fits key key_fits Any cmp in_order front (all_front front (e ∷ es) all)))

  -- entries in the order of their keys make the table in which they are put
  pub by_key_table : (value : X → List ℕ) (entries : List (K × X)) → AllByRecursion (RowFits key_fits Any) entries → table_from_rows key value (by_key cmp entries) ≡ with_rows key value entries no_rows
  unfolding by_key
  by_key_table value entries all = table_of_puts value [] entries all

  -- entries whose keys differ are the same after each is put in its place
  same_after : (front back : List (K × X)) → AllByRecursion (RowFits key_fits Any) (front ++ back) → all_differ (λ a b. same_key (key a.0) (key b.0)) (front ++ back) ≡ true → HasSame (by_key cmp front) front → HasSame (puts_after front back) (front ++ back)
  same_after front [] all differ same = subst (HasSame (by_key cmp front)) (sym (append-nil front)) same
  same_after front (e ∷ es) all differ same =
      subst (λ (rows : List (K × X)). HasSame (fold (λ sorted e. put cmp e.0 e.1 sorted) rows es) (front ++ e ∷ es)) (one_more front e)
      (subst (HasSame (puts_after (front ++ e ∷ []) es)) (append_assoc front (e ∷ []) es)
      (same_after (front ++ e ∷ []) es (subst (AllByRecursion (RowFits key_fits Any)) (sym (append_assoc front (e ∷ []) es)) all)
      (subst (λ (l : List (K × X)). all_differ (λ a b. same_key (key a.0) (key b.0)) l ≡ true) (sym (append_assoc front (e ∷ []) es)) differ)
      (subst (λ (rows : List (K × X)). HasSame rows (front ++ e ∷ [])) (sym (one_more front e)) next)))
    where
      other : (r : K × X) → In r (by_key cmp front) → key r.0 ≡ key e.0 → ⊥
      other r i is = front_differs (λ a b. same_key (key a.0) (key b.0)) front e es differ r (same.there r i) (subst (λ (q : List ℕ). same_key (key r.0) q ≡ true) is (same_itself (key r.0)))

      next : HasSame (put cmp e.0 e.1 (by_key cmp front)) (front ++ e ∷ [])
      next =
          let between = put_between e.0 e.1 (by_key cmp front) (next_fits front e es all) (by_key_fits key key_fits Any cmp in_order front (all_front front (e ∷ es) all)) other in
          subst (λ (rows : List (K × X)). HasSame rows (front ++ e ∷ [])) (sym between.3) (moved between.0 between.1 e front (subst (λ (rows : List (K × X)). HasSame rows front) between.2 same))

  -- entries whose keys differ are the same in the order of their keys
  pub by_key_same : (entries : List (K × X)) → AllByRecursion (RowFits key_fits Any) entries → all_differ (λ a b. same_key (key a.0) (key b.0)) entries ≡ true → HasSame (by_key cmp entries) entries
  unfolding by_key
  by_key_same entries all differ = same_after [] entries all differ (record { there = λ x i. i; back = λ x i. i; count = refl })
