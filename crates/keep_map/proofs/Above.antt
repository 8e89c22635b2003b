-- The search for the next key: the first entry at which it stops, and the places before that entry.
use Rattle.std.proofs.Common.{◌≡◌, ℕ, Bool, true, false, cond, not, List, [], ◌∷◌, refl, sym, ap, subst, ◌∙◌, arith, eq-eqb}
use Rattle.std.specs.Prelude.{Option, Some, None, is_some, ◌==◌, ◌||◌, ◌&&◌}
use Rattle.std.specs.List.{find, filter, AllByRecursion}
use Rattle.std.specs.List.Sorted.{IsStrictlySortedBy}
use Rattle.std.specs.Map.{lookup, keys_of}
use Rattle.std.specs.Cmp.{nat_cmp_total, eq_by_cmp_equiv}
use Rattle.std.specs.Ordering.{is_eq, is_lt, nat_cmp, ordering_then, ordering_reverse}
use Rattle.std.specs.BTreeMap.{BTreeMap, IsOrdered}
use Rattle.std.specs.BTreeMap.Range.{range_contains}
use Rattle.std.specs.declared.ops.Bound.TheVariants.{Excluded, Unbounded}
use Rattle.std.proofs.lemmas.Map.Entries.{lookup-filter-keys}
use Rattle.std.proofs.lemmas.List.Kept.{IsStrictlySortedBy-filter}
use Rattle.std.proofs.lemmas.Map.Lookups.{exact_unsigned}
use Rattle.std.proofs.lemmas.Bool.Decides.{nat_tests}
use Rattle.std.specs.declared.cmp.Ordering.{Ordering}
use Rattle.std.specs.declared.cmp.Ordering.TheVariants.{Less, Equal, Greater}
use Rattle.repl_types.specs.Bytes.{bytes_cmp}
use Rattle.keep_map.specs.declared.slot.Slot.{Slot}
use Rattle.keep_map.specs.declared.stored_row.StoredRow.{StoredRow}
use Rattle.keep_map.specs.declared.stored_row.StoredValue.{StoredValue}
use Rattle.keep_core.specs.Contents.{IsNextKey, IsLastKey}
use Rattle.keep_map.specs.Places.{Place, place_cmp, same_place}
use Rattle.keep_map.specs.Scattered.{place_of, slot_cmp, row_at, seen_in, bytes_of, table_seen, entries_above, stops}
use Rattle.keep_map.proofs.Places.{places_total, place_is}

-- the entries of a map
abbrev pub Entries : Type 0
Entries = List (Slot × StoredRow)

-- the row at a place, among entries
abbrev pub at : Entries → Place → Option StoredRow
at es p = lookup (λ s. same_place p (place_of s)) es

-- the entries are in the order of their slots
abbrev pub AreInOrder : Entries → Type 0
AreInOrder es = IsStrictlySortedBy slot_cmp (keys_of es)

-- entries in order have no row below the first
below_first : (p : Place) (e : Slot × StoredRow) (es : Entries) → AreInOrder (e ∷ es) → place_cmp p (place_of e.0) ≡ Less → at (e ∷ es) p ≡ None
unfolding IsStrictlySortedBy
below_first p e [] sorted low = ap (λ (r : Ordering). cond (is_eq r) (Some e.1) None) low
below_first p e (x ∷ xs) sorted low =
    ap (λ (r : Ordering). cond (is_eq r) (Some e.1) (at (x ∷ xs) p)) low
    ∙ below_first p x xs sorted.1 (places_total.trans p (place_of e.0) (place_of x.0) low sorted.0.0)

module _ (n t : ℕ) where
  -- no value is seen in an entry that is passed over
  unseen : (e : Slot × StoredRow) → stops n t e ≡ false → bytes_of e.1.now ≡ None
  unseen e no_stop = none e.1.now (not (e.0.area == n)) (not (e.0.table == t)) no_stop
    where
      none : (v : Option StoredValue) (a b : Bool) → ((is_some v || a) || b) ≡ false → bytes_of v ≡ None
      none None a b e = refl
      none (Some v) a b e = absurd cc

  -- if an entry is passed over and no value is seen after it, none is seen from it on
  passed_over : (x : Slot × StoredRow) (xs : Entries) (p : Place) → stops n t x ≡ false → seen_in (at xs p) ≡ None → seen_in (at (x ∷ xs) p) ≡ None
  passed_over x xs p no_stop behind = by_cases (same_place p (place_of x.0))
    where
      by_cases : (b : Bool) → seen_in (cond b (Some x.1) (at xs p)) ≡ None
      by_cases true = unseen x no_stop
      by_cases false = behind

  -- if no entry stops the search, no value is seen
  pub none_seen : (es : Entries) → find (stops n t) es ≡ None → (p : Place) → seen_in (at es p) ≡ None
  none_seen [] none p = refl
  none_seen (x ∷ xs) none p = by_cases (stops n t x) refl none (λ e. none_seen xs e p)
    where
      by_cases : (b : Bool) → stops n t x ≡ b → cond b (Some x) (find (stops n t) xs) ≡ None → (find (stops n t) xs ≡ None → seen_in (at xs p) ≡ None) → seen_in (at (x ∷ xs) p) ≡ None
      by_cases true e is behind = absurd cc
      by_cases false e is behind = passed_over x xs p e (behind is)

  -- before the entry that stops the search no value is seen
  pub none_before : (es : Entries) (e : Slot × StoredRow) → find (stops n t) es ≡ Some e → AreInOrder es → (p : Place) → place_cmp p (place_of e.0) ≡ Less → seen_in (at es p) ≡ None
  unfolding IsStrictlySortedBy
  none_before [] e found sorted p low = absurd cc
  none_before (x ∷ xs) e found sorted p low = by_cases (stops n t x) refl found (λ f. none_before xs e f sorted.1 p low)
    where
      by_cases : (b : Bool) → stops n t x ≡ b → cond b (Some x) (find (stops n t) xs) ≡ Some e → (find (stops n t) xs ≡ Some e → seen_in (at xs p) ≡ None) → seen_in (at (x ∷ xs) p) ≡ None
      by_cases true s is behind = let same : x ≡ e = cc in ap seen_in (below_first p x xs sorted (subst (λ (y : Slot × StoredRow). place_cmp p (place_of y.0) ≡ Less) (sym same) low))
      by_cases false s is behind = passed_over x xs p s (behind is)

  -- what holds of each key holds of the key at which the search stops
  of_found : (P : Slot → Type 0) (es : Entries) (e : Slot × StoredRow) → find (stops n t) es ≡ Some e → AllByRecursion P (keys_of es) → P e.0
  of_found P [] e found all = absurd cc
  of_found P (x ∷ xs) e found all = by_cases (stops n t x) found (λ f. of_found P xs e f all.1)
    where
      by_cases : (b : Bool) → cond b (Some x) (find (stops n t) xs) ≡ Some e → (find (stops n t) xs ≡ Some e → P e.0) → P e.0
      by_cases true is behind = let same : x ≡ e = cc in subst (λ (y : Slot × StoredRow). P y.0) same all.0
      by_cases false is behind = behind is

  -- the entry that was found stops the search, and its row is at its place
  pub found_stops : (es : Entries) (e : Slot × StoredRow) → find (stops n t) es ≡ Some e → AreInOrder es → (stops n t e ≡ true) × (at es (place_of e.0) ≡ Some e.1)
  unfolding IsStrictlySortedBy
  found_stops [] e found sorted = absurd cc
  found_stops (x ∷ xs) e found sorted = by_cases (stops n t x) refl found (λ f. found_stops xs e f sorted.1)
    where
      by_cases : (b : Bool) → stops n t x ≡ b → cond b (Some x) (find (stops n t) xs) ≡ Some e → (find (stops n t) xs ≡ Some e → (stops n t e ≡ true) × (at xs (place_of e.0) ≡ Some e.1)) → (stops n t e ≡ true) × (at (x ∷ xs) (place_of e.0) ≡ Some e.1)
      by_cases true s is behind =
          let same : x ≡ e = cc in
          let equiv = eq_by_cmp_equiv places_total in
          subst (λ (y : Slot × StoredRow). (stops n t y ≡ true) × (at (x ∷ xs) (place_of y.0) ≡ Some y.1)) same (s, ap (λ (b : Bool). cond b (Some x.1) (at xs (place_of x.0))) (equiv.refl (place_of x.0)))
      by_cases false s is behind =
          let equiv = eq_by_cmp_equiv places_total in
          let low = of_found (λ (y : Slot). slot_cmp x.0 y ≡ Less) xs e is sorted.0 in
          let apart : same_place (place_of e.0) (place_of x.0) ≡ false = equiv.symm (place_of e.0) (place_of x.0) ∙ ap is_eq low in
          ((behind is).0, ap (λ (b : Bool). cond b (Some x.1) (at xs (place_of e.0))) apart ∙ (behind is).1)

-- the keys of the entries whose keys pass a test are the keys that pass it
keys_filter : (p : Slot → Bool) (es : Entries) → keys_of (filter (λ e. p e.0) es) ≡ filter p (keys_of es)
keys_filter p [] = refl
keys_filter p (x ∷ xs) = by_cases (p x.0) (keys_filter p xs)
  where
    by_cases : (b : Bool) → keys_of (filter (λ e. p e.0) xs) ≡ filter p (keys_of xs) → keys_of (cond b (x ∷ filter (λ e. p e.0) xs) (filter (λ e. p e.0) xs)) ≡ cond b (x.0 ∷ filter p (keys_of xs)) (filter p (keys_of xs))
    by_cases true e = ap (λ (l : List Slot). x.0 ∷ l) e
    by_cases false e = e

-- a place above one place of a table and below another is in that table
squeeze : (c d e f : Ordering) → ordering_then c (ordering_then d e) ≡ Less → ordering_then (ordering_reverse c) (ordering_then (ordering_reverse d) f) ≡ Less → (c ≡ Equal) × (d ≡ Equal)
squeeze Less d e f p q = absurd cc
squeeze Greater d e f p q = absurd cc
squeeze Equal Less e f p q = absurd cc
squeeze Equal Greater e f p q = absurd cc
squeeze Equal Equal e f p q = (refl, refl)

-- the order of keys is that of their places in one table
same_table : (n t : ℕ) (a q : List ℕ) → place_cmp (n, t, a) (n, t, q) ≡ bytes_cmp a q
same_table n t a q = ap (λ (c : Ordering). ordering_then c (ordering_then (nat_cmp t t) (bytes_cmp a q))) (tied n) ∙ ap (λ (c : Ordering). ordering_then c (bytes_cmp a q)) (tied t)
  where
    tied : (x : ℕ) → nat_cmp x x ≡ Equal
    tied x = grind (arith, nat_tests)

module _ (m : BTreeMap Slot StoredRow) (s : Slot) (ordered : IsOrdered slot_cmp m) where
  -- the entries above the slot
  abbrev es : Entries
  es = entries_above s m

  -- the entries above are in order
  in_order : AreInOrder es
  in_order =
      let passes = range_contains slot_cmp (Excluded s) Unbounded in
      subst (λ (l : List Slot). IsStrictlySortedBy slot_cmp l) (sym (keys_filter passes m.entries)) (IsStrictlySortedBy-filter slot_cmp passes (keys_of m.entries) ordered)

  -- the entries above have the row of a place if it is above
  at_place : (p : Place) → at es p ≡ cond (is_lt (place_cmp (place_of s) p) && true) (row_at m p) None
  at_place p =
      lookup-filter-keys (λ (k : Slot). same_place p (place_of k)) (range_contains slot_cmp (Excluded s) Unbounded) (is_lt (place_cmp (place_of s) p) && true) (λ k same. ap (λ (q : Place). is_lt (place_cmp (place_of s) q) && true) (sym (place_is p (place_of k) same))) m.entries

  -- above the slot the entries have the rows of the map
  same_above : (p : Place) → place_cmp (place_of s) p ≡ Less → row_at m p ≡ at es p
  same_above p low = sym (at_place p ∙ ap (λ (r : Ordering). cond (is_lt r && true) (row_at m p) None) low)

  -- if no entry stops the search, the table has no key above
  pub no_key_above : find (stops s.area s.table) es ≡ None → IsLastKey (table_seen m s.area s.table) s.key.items
  no_key_above none = λ q low.
      ap seen_in (same_above (s.area, s.table, q) (same_table s.area s.table s.key.items q ∙ low)) ∙ none_seen s.area s.table es none (s.area, s.table, q)

  module _ (e : Slot × StoredRow) (found : find (stops s.area s.table) es ≡ Some e) where
    -- the entry that was found is above the slot, and in the map
    pub found_is_above : (place_cmp (place_of s) (place_of e.0) ≡ Less) × (row_at m (place_of e.0) ≡ Some e.1)
    found_is_above = by_cases (place_cmp (place_of s) (place_of e.0)) (sym (at_place (place_of e.0)) ∙ (found_stops s.area s.table es e found in_order).1)
      where
        by_cases : (r : Ordering) → cond (is_lt r && true) (row_at m (place_of e.0)) None ≡ Some e.1 → (r ≡ Less) × (row_at m (place_of e.0) ≡ Some e.1)
        by_cases Less f = (refl, f)
        by_cases Equal f = absurd cc
        by_cases Greater f = absurd cc

    -- no value is seen between the slot and that entry
    none_between : (q : List ℕ) → bytes_cmp s.key.items q ≡ Less → place_cmp (s.area, s.table, q) (place_of e.0) ≡ Less → table_seen m s.area s.table q ≡ None
    none_between q low below =
        ap seen_in (same_above (s.area, s.table, q) (same_table s.area s.table s.key.items q ∙ low)) ∙ none_before s.area s.table es e found in_order (s.area, s.table, q) below

    -- if the entry that was found is of the table and has a value, its key is the next
    pub found_is_next : e.0.area ≡ s.area → e.0.table ≡ s.table → (v : StoredValue) → e.1.now ≡ Some v → IsNextKey (table_seen m s.area s.table) s.key.items e.0.key.items v.bytes.items
    found_is_next area table v now = record {
      above = sym (same_table s.area s.table s.key.items e.0.key.items) ∙ ap (λ (p : Place). place_cmp (place_of s) p) (sym here) ∙ found_is_above.0;
      has = ap (λ (p : Place). seen_in (row_at m p)) (sym here) ∙ ap seen_in found_is_above.1 ∙ ap bytes_of now;
      least = λ q low below. none_between q low (ap (λ (p : Place). place_cmp (s.area, s.table, q) p) here ∙ same_table s.area s.table q e.0.key.items ∙ below);
    }
      where
        here : place_of e.0 ≡ (s.area, s.table, e.0.key.items)
        here = λ i. (area i, table i, e.0.key.items)

    -- if the entry that was found is of another table, the table has no key above
    pub found_in_other : (e.0.area ≡ s.area → e.0.table ≡ s.table → ⊥) → IsLastKey (table_seen m s.area s.table) s.key.items
    found_in_other other = λ q low. by_cases q low (place_cmp (s.area, s.table, q) (place_of e.0)) refl
      where
        by_cases : (q : List ℕ) → bytes_cmp s.key.items q ≡ Less → (r : Ordering) → place_cmp (s.area, s.table, q) (place_of e.0) ≡ r → table_seen m s.area s.table q ≡ None
        by_cases q low Less is = none_between q low is
        by_cases q low Equal is =
            let same = place_is (s.area, s.table, q) (place_of e.0) (ap is_eq is) in
            absurd (other (ap (λ (p : Place). p.0) (sym same)) (ap (λ (p : Place). p.1) (sym same)))
        by_cases q low Greater is =
            let tied = squeeze (nat_cmp s.area e.0.area) (nat_cmp s.table e.0.table) (bytes_cmp s.key.items e.0.key.items) (bytes_cmp e.0.key.items q) found_is_above.0
            (ap (λ (r : Ordering). ordering_then r (ordering_then (ordering_reverse (nat_cmp s.table e.0.table)) (bytes_cmp e.0.key.items q))) (sym (nat_cmp_total.antisymm e.0.area s.area))
            ∙ ap (λ (r : Ordering). ordering_then (nat_cmp e.0.area s.area) (ordering_then r (bytes_cmp e.0.key.items q))) (sym (nat_cmp_total.antisymm e.0.table s.table))
            ∙ places_total.antisymm (place_of e.0) (s.area, s.table, q) ∙ ap ordering_reverse is) in
            absurd (other (sym (exact_unsigned s.area e.0.area tied.0)) (sym (exact_unsigned s.table e.0.table tied.1)))

    -- an entry with no value stops the search only if it is of another table
    pub valueless_in_other : e.1.now ≡ None → e.0.area ≡ s.area → e.0.table ≡ s.table → ⊥
    valueless_in_other none area table =
        clash (sym (found_stops s.area s.table es e found in_order).0
        ∙ ap (λ (v : Option StoredValue). (is_some v || not (e.0.area == s.area)) || not (e.0.table == s.table)) none
        ∙ ap (λ (b : Bool). not b || not (e.0.table == s.table)) (eq-eqb e.0.area s.area area) ∙ ap (λ (b : Bool). not b) (eq-eqb e.0.table s.table table))
      where
        clash : true ≡ false → ⊥
        clash f = cc
