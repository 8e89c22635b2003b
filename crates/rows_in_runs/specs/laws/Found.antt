-- Look-ups by key among rows whose keys rise.
use Rattle.std.proofs.Common.{◌≡◌, ℕ, zero, suc, ◌<◌, Bool, true, false, cond, List, [], ◌∷◌, ◌++◌, length, take, refl, sym, ap, subst, ◌∙◌, arith}
use Rattle.std.specs.Prelude.{Option, Some, None, get_or, filter, is_some}
use Rattle.std.specs.List.{All, AllPairs}
use Rattle.std.specs.Map.{lookup, keys_of}
use Rattle.std.specs.Ordering.{is_eq, ordering_reverse}
use Rattle.std.specs.declared.cmp.Ordering.{Ordering}
use Rattle.std.specs.declared.cmp.Ordering.TheVariants.{Less, Equal, Greater}
use Rattle.std.proofs.lemmas.Cmp.{nat_list_cmp_total, eq_by_cmp_equiv}
use Rattle.std.proofs.lemmas.List.{get_or-map, map_push}
use Rattle.std.proofs.lemmas.List.Elements.{All-tail, All-take, All-from_get_or}
use Rattle.std.proofs.lemmas.List.Kept.{AllPairs-filter}
use Rattle.std.proofs.lemmas.List.Quantifiers.{all_pairs_push}
use Rattle.std.proofs.lemmas.Map.Entries.{lookup-filter-values, length-keys_of, option_filter}
use Rattle.std.proofs.lemmas.Map.Keys.{IsDistinct-from_apart}
use Rattle.std.proofs.lemmas.Map.Lookups.{exact_bytes}
use Rattle.repl_types.specs.Bytes.{bytes_cmp}
use Rattle.keep_core.specs.Contents.{same_key}
use Rattle.rows_in_runs.specs.Rows.{IsRising}
use Rattle.rows_in_runs.specs.Runs.{value_in}

-- rows as their bytes
abbrev pub Rows : Type 0
Rows = List (List ℕ × Option (List ℕ))

-- ---- the order of keys

-- keys that are the same are equal
pub same_is : (k q : List ℕ) → same_key k q ≡ true → k ≡ q
same_is k q same = exact_bytes k q (tied (bytes_cmp k q) same)
  where
    tied : (o : Ordering) → is_eq o ≡ true → o ≡ Equal
    tied Equal e = refl
    tied Less e = absurd cc
    tied Greater e = absurd cc

-- a key is the same as itself
pub same_itself : (k : List ℕ) → same_key k k ≡ true
same_itself k = (eq_by_cmp_equiv nat_list_cmp_total).refl k

-- whether keys are the same doesn't depend on which is named first
pub same_back : (k q : List ℕ) → same_key k q ≡ same_key q k
same_back k q = (eq_by_cmp_equiv nat_list_cmp_total).symm k q

-- of two keys of which one is the less, neither is the other
pub differs : (k q : List ℕ) → bytes_cmp k q ≡ Less → same_key k q ≡ false
differs k q less = ap is_eq less

-- the same, with the greater first
pub differs_back : (k q : List ℕ) → bytes_cmp k q ≡ Less → same_key q k ≡ false
differs_back k q less = same_back q k ∙ differs k q less

-- the greater of two keys
pub greater_back : (k q : List ℕ) → bytes_cmp k q ≡ Greater → bytes_cmp q k ≡ Less
greater_back k q greater = nat_list_cmp_total.antisymm q k ∙ ap ordering_reverse greater

-- a test that both holds and fails
pub clash : {b : Bool} → b ≡ true → b ≡ false → ⊥
clash holds fails = let e : true ≡ false = sym holds ∙ fails in cc

-- ---- keys that rise

-- without the first key they rise
pub rising_tail : (k : List ℕ) (ks : List (List ℕ)) → IsRising (k ∷ ks) → IsRising ks
rising_tail k ks rising = λ i j d lt within. rising (suc i) (suc j) d (omega arith) (omega arith)

-- the first is below each other
pub first_below : (k : List ℕ) (ks : List (List ℕ)) → IsRising (k ∷ ks) → (i : ℕ) → i < length ks → bytes_cmp k (get_or ks i []) ≡ Less
first_below k ks rising i within = rising 0 (suc i) [] (omega arith) (omega arith)

-- ---- look-ups

-- a look-up of a key that no row has
pub none_has : {X : Type 0} (es : List (List ℕ × X)) (k : List ℕ) → All (λ q. same_key k q ≡ false) (keys_of es) → lookup (same_key k) es ≡ None
none_has [] k all = refl
none_has (e ∷ es) k all = ap (λ (b : Bool). cond b (Some e.1) (lookup (same_key k) es)) (all 0 [] (omega arith)) ∙ none_has es k (All-tail (λ q. same_key k q ≡ false) e.0 (keys_of es) all)

-- if a look-up finds nothing, no row has the key
pub has_none : {X : Type 0} (es : List (List ℕ × X)) (k : List ℕ) → lookup (same_key k) es ≡ None → (i : ℕ) → i < length (keys_of es) → same_key k (get_or (keys_of es) i []) ≡ false
has_none [] k none i within = absurd (omega arith)
has_none (e ∷ es) k none i within = pick (same_key k e.0) refl none i within (has_none es k)
  where
    pick : (b : Bool) → same_key k e.0 ≡ b → cond b (Some e.1) (lookup (same_key k) es) ≡ None → (i : ℕ) → i < length (keys_of (e ∷ es)) → (lookup (same_key k) es ≡ None → (i : ℕ) → i < length (keys_of es) → same_key k (get_or (keys_of es) i []) ≡ false) → same_key k (get_or (keys_of (e ∷ es)) i []) ≡ false
    pick true is none i within rest = absurd cc
    pick false is none zero within rest = is
    pick false is none (suc i) within rest = rest none i (omega arith)

-- a key that no row has, none of the first rows has
pub none_of_first : {X : Type 0} (es fs : List (List ℕ × X)) (n : ℕ) (k : List ℕ) → keys_of fs ≡ take n (keys_of es) → lookup (same_key k) es ≡ None → lookup (same_key k) fs ≡ None
none_of_first es fs n k first none =
    let all : All (λ q. same_key k q ≡ false) (keys_of es) = All-from_get_or (λ q. same_key k q ≡ false) (keys_of es) [] (has_none es k none) in
    none_has fs k (subst (λ (ks : List (List ℕ)). All (λ q. same_key k q ≡ false) ks) (sym first) (All-take (λ q. same_key k q ≡ false) n (keys_of es) all))

-- at the key of a row its value is found
pub found_at : {X : Type 0} (es : List (List ℕ × X)) (i : ℕ) (d : List ℕ × X) → IsRising (keys_of es) → i < length es → lookup (same_key (get_or (keys_of es) i [])) es ≡ Some (get_or es i d).1
found_at [] i d rising within = absurd (omega arith)
found_at (e ∷ es) zero d rising within = ap (λ (b : Bool). cond b (Some e.1) (lookup (same_key e.0) es)) (same_itself e.0)
found_at (e ∷ es) (suc i) d rising within =
    let there : i < length (keys_of es) = omega (arith, length-keys_of es) in
    let key = get_or (keys_of es) i [] in
    ap (λ (b : Bool). cond b (Some e.1) (lookup (same_key key) es)) (differs_back e.0 key (first_below e.0 (keys_of es) rising i there))
    ∙ found_at es i d (rising_tail e.0 (keys_of es) rising) (omega arith)

-- if no row with the key has a value, none is found
pub no_value : (rows : Rows) (k : List ℕ) → ((i : ℕ) → i < length rows → get_or (keys_of rows) i [] ≡ k → (get_or rows i ([], None)).1 ≡ None) → value_in (lookup (same_key k) rows) ≡ None
no_value [] k none = refl
no_value (r ∷ rs) k none = pick (same_key k r.0) refl (no_value rs k (λ i within is. none (suc i) (omega arith) is))
  where
    pick : (b : Bool) → same_key k r.0 ≡ b → value_in (lookup (same_key k) rs) ≡ None → value_in (cond b (Some r.1) (lookup (same_key k) rs)) ≡ None
    pick true same rest = none 0 (omega arith) (sym (same_is k r.0 same))
    pick false same rest = rest

-- ---- one row more

-- a row above all others is found at its key, and the others as before
pub found_pushed : (rows : Rows) (key : List ℕ) (value : Option (List ℕ)) (k : List ℕ) → All (λ q. bytes_cmp q key ≡ Less) (keys_of rows) → lookup (same_key k) (rows ++ (key, value) ∷ []) ≡ cond (same_key key k) (Some value) (lookup (same_key k) rows)
found_pushed [] key value k below = ap (λ (b : Bool). cond b (Some value) None) (same_back k key)
found_pushed (r ∷ rs) key value k below =
    ap (λ (o : Option (Option (List ℕ))). cond (same_key k r.0) (Some r.1) o) (found_pushed rs key value k (All-tail (λ q. bytes_cmp q key ≡ Less) r.0 (keys_of rs) below))
    ∙ pick (same_key k r.0) (same_key key k) both
  where
    both : same_key k r.0 ≡ true → same_key key k ≡ true → ⊥
    both first last =
        let one : k ≡ r.0 = same_is k r.0 first in
        let two : key ≡ k = same_is key k last in
        clash (subst (λ (q : List ℕ). same_key q r.0 ≡ true) (sym two) first) (differs_back r.0 key (below 0 [] (omega arith)))

    pick : (a b : Bool) → (a ≡ true → b ≡ true → ⊥) → cond a (Some r.1) (cond b (Some value) (lookup (same_key k) rs)) ≡ cond b (Some value) (cond a (Some r.1) (lookup (same_key k) rs))
    pick true true no_both = absurd (no_both refl refl)
    pick true false no_both = refl
    pick false b no_both = refl

-- with a row above all others keys still rise
pub rising_pushed : (rows : Rows) (row : List ℕ × Option (List ℕ)) → IsRising (keys_of rows) → All (λ q. bytes_cmp q row.0 ≡ Less) (keys_of rows) → IsRising (keys_of (rows ++ row ∷ []))
rising_pushed rows row rising below = subst IsRising (sym (map_push (λ (r : List ℕ × Option (List ℕ)). r.0) rows row)) (all_pairs_push (λ k q. bytes_cmp k q ≡ Less) (keys_of rows) row.0 rising below)

-- ---- the rows with a value

module _ (rows : Rows) (rising : IsRising (keys_of rows)) where
  -- their keys rise
  pub rising_valued : IsRising (keys_of (filter (λ r. is_some r.1) rows))
  rising_valued =
      let kept : AllPairs (λ x y. bytes_cmp x.0 y.0 ≡ Less) (filter (λ r. is_some r.1) rows) = AllPairs-filter (λ (x y : List ℕ × Option (List ℕ)). bytes_cmp x.0 y.0 ≡ Less) (λ (r : List ℕ × Option (List ℕ)). is_some r.1) rows (by_rows rows rising) in
      by_keys (filter (λ r. is_some r.1) rows) kept
    where
      by_rows : (rs : Rows) → IsRising (keys_of rs) → AllPairs (λ x y. bytes_cmp x.0 y.0 ≡ Less) rs
      by_rows rs up = λ i j d lt within.
          let one : get_or (keys_of rs) i [] ≡ (get_or rs i d).0 = get_or-map (λ (r : List ℕ × Option (List ℕ)). r.0) rs i d [] (omega arith) in
          let two : get_or (keys_of rs) j [] ≡ (get_or rs j d).0 = get_or-map (λ (r : List ℕ × Option (List ℕ)). r.0) rs j d [] within in
          ap (λ (k : List ℕ). bytes_cmp k (get_or rs j d).0) (sym one) ∙ ap (bytes_cmp (get_or (keys_of rs) i [])) (sym two) ∙ up i j [] lt (omega (arith, length-keys_of rs))

      by_keys : (rs : Rows) → AllPairs (λ x y. bytes_cmp x.0 y.0 ≡ Less) rs → IsRising (keys_of rs)
      by_keys rs up = λ i j d lt within.
          let there : j < length rs = omega (arith, length-keys_of rs) in
          let one : get_or (keys_of rs) i d ≡ (get_or rs i (d, None)).0 = get_or-map (λ (r : List ℕ × Option (List ℕ)). r.0) rs i (d, None) d (omega arith) in
          let two : get_or (keys_of rs) j d ≡ (get_or rs j (d, None)).0 = get_or-map (λ (r : List ℕ × Option (List ℕ)). r.0) rs j (d, None) d there in
          ap (λ (k : List ℕ). bytes_cmp k (get_or (keys_of rs) j d)) one ∙ ap (bytes_cmp (get_or rs i (d, None)).0) two ∙ up i j (d, None) lt there

  -- among them the same is found, except rows without a value
  pub found_valued : (k : List ℕ) → lookup (same_key k) (filter (λ r. is_some r.1) rows) ≡ option_filter (λ v. is_some v) (lookup (same_key k) rows)
  found_valued k =
      lookup-filter-values (eq_by_cmp_equiv nat_list_cmp_total) (λ (v : Option (List ℕ)). is_some v) k rows
      (IsDistinct-from_apart same_key (keys_of rows) (λ i j d lt within. differs (get_or (keys_of rows) i d) (get_or (keys_of rows) j d) (rising i j d lt within)))

-- a value is seen if it was seen before rows without a value were left out
pub seen_valued : (o : Option (Option (List ℕ))) → value_in (option_filter (λ v. is_some v) o) ≡ value_in o
seen_valued None = refl
seen_valued (Some None) = refl
seen_valued (Some (Some v)) = refl
