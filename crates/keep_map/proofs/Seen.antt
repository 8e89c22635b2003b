-- The values that rows give, after a change of the rows.
use Rattle.std.proofs.Common.{◌≡◌, ℕ, Bool, true, false, cond, List, refl, sym, ap, ◌∙◌, arith}
use Rattle.std.specs.Prelude.{Option, Some, None, Result, Ok, Err, OnOk, OnErr, ◌==◌, ◌&&◌}
use Rattle.std.specs.BTreeMap.{BTreeMap}
use Rattle.std.specs.Ordering.{is_eq, nat_cmp, ordering_then}
use Rattle.std.specs.Cmp.{tied_then}
use Rattle.std.proofs.lemmas.Bool.{eqb-true}
use Rattle.std.proofs.lemmas.Bool.Decides.{nat_tests}
use Rattle.repl_types.specs.Bytes.{bytes_cmp}
use Rattle.repl_types.specs.Area.{area_number}
use Rattle.repl_types.specs.declared.area.Area.{Area}
use Rattle.keep_core.specs.Contents.{same_key, set_key, put_at}
use Rattle.keep_map.specs.Places.{Place, Values, same_place, put_value, contents_of}
use Rattle.keep_map.specs.Scattered.{row_at, seen_in, held_in, bytes_of, rows_seen, rows_held, SetsRow, changed_row}
use Rattle.keep_map.specs.declared.slot.Slot.{Slot}
use Rattle.keep_map.specs.declared.stored_row.StoredRow.{StoredRow}
use Rattle.keep_map.specs.declared.stored_row.StoredValue.{StoredValue}
use Rattle.keep_map.proofs.Places.{place_is}

-- two numbers compare as equal if and only if they are equal
pub eq_test : (a b : ℕ) → is_eq (nat_cmp a b) ≡ (a == b)
eq_test a b = grind (arith, nat_tests)

-- two places are the same if and only if their parts are
same_parts : (x y : Place) → same_place x y ≡ ((x.0 == y.0) && ((x.1 == y.1) && same_key x.2 y.2))
same_parts x y =
    sym (tied_then (nat_cmp x.0 y.0) (ordering_then (nat_cmp x.1 y.1) (bytes_cmp x.2 y.2)))
    ∙ ap (λ (b : Bool). is_eq (nat_cmp x.0 y.0) && b) (sym (tied_then (nat_cmp x.1 y.1) (bytes_cmp x.2 y.2)))
    ∙ ap (λ (b : Bool). b && (is_eq (nat_cmp x.1 y.1) && same_key x.2 y.2)) (eq_test x.0 y.0)
    ∙ ap (λ (b : Bool). (x.0 == y.0) && (b && same_key x.2 y.2)) (eq_test x.1 y.1)

-- a value that is put at one place is put in the contents there
pub contents_put : (f : Values) (a : Area) (t : ℕ) (k : List ℕ) (v : Option (List ℕ)) → contents_of (put_value f (area_number a, t, k) v) ≡ put_at (contents_of f) a t k v
contents_put f a t k v = λ i b u q. cell b u q i
  where
    cell : (b : Area) (u : ℕ) (q : List ℕ) → contents_of (put_value f (area_number a, t, k) v) b u q ≡ put_at (contents_of f) a t k v b u q
    cell b u q =
        ap (λ (x : Bool). cond x v (contents_of f b u q)) (same_parts (area_number a, t, k) (area_number b, u, q))
        ∙ by_cases (area_number a == area_number b) refl (t == u) refl
      where
        at_key : (z : Bool) → contents_of f a t q ≡ contents_of f b u q → cond z v (contents_of f b u q) ≡ cond z v (contents_of f a t q)
        at_key true e = refl
        at_key false e = sym e

        by_cases : (x : Bool) → (area_number a == area_number b) ≡ x → (y : Bool) → (t == u) ≡ y → cond (x && (y && same_key k q)) v (contents_of f b u q) ≡ cond (x && y) (set_key (contents_of f a t) k v) (contents_of f b u) q
        by_cases false ex y ey = refl
        by_cases true ex false ey = refl
        by_cases true ex true ey = at_key (same_key k q) (λ i. f (eqb-true (area_number a) (area_number b) ex i, eqb-true t u ey i, q))

-- putting the value that is already there changes nothing
pub put_same : (f : Values) (at : Place) (v : Option (List ℕ)) → f at ≡ v → f ≡ put_value f at v
put_same f at v is = λ i p. cell p i
  where
    cell : (p : Place) → f p ≡ put_value f at v p
    cell p = by_cases (same_place at p) refl
      where
        by_cases : (x : Bool) → same_place at p ≡ x → f p ≡ cond x v (f p)
        by_cases false e = refl
        by_cases true e = ap f (sym (place_is at p e)) ∙ is

-- setting a row puts its value
pub seen_set : (m n : BTreeMap Slot StoredRow) (at : Place) (w : Option StoredRow) → SetsRow at w m n → rows_seen n ≡ put_value (rows_seen m) at (seen_in w)
seen_set m n at w sets = λ i p. (ap seen_in (sets p) ∙ by_cases p (same_place at p)) i
  where
    by_cases : (p : Place) (x : Bool) → seen_in (cond x w (row_at m p)) ≡ cond x (seen_in w) (rows_seen m p)
    by_cases p false = refl
    by_cases p true = refl

-- setting a row that holds what was held at its place leaves the values held
pub held_set : (m n : BTreeMap Slot StoredRow) (at : Place) (w : Option StoredRow) → held_in w ≡ held_in (row_at m at) → SetsRow at w m n → rows_held n ≡ rows_held m
held_set m n at w is sets = λ i p. (ap held_in (sets p) ∙ by_cases p (same_place at p) refl) i
  where
    by_cases : (p : Place) (x : Bool) → same_place at p ≡ x → held_in (cond x w (row_at m p)) ≡ rows_held m p
    by_cases p false e = refl
    by_cases p true e = is ∙ ap (λ (q : Place). held_in (row_at m q)) (place_is at p e)

-- if each row stays, the values held stay
pub held_same : (m n : BTreeMap Slot StoredRow) → ((p : Place) → row_at n p ≡ row_at m p) → rows_held n ≡ rows_held m
held_same m n same = λ i p. held_in (same p i)

-- in a changed row the transaction sees the new value
pub changed_seen : (r : Option StoredRow) (v : Option StoredValue) → seen_in (Some (changed_row r v)) ≡ bytes_of v
changed_seen None v = refl
changed_seen (Some row) v = refl

-- a changed row holds what it held
pub changed_held : (r : Option StoredRow) (v : Option StoredValue) → held_in (Some (changed_row r v)) ≡ held_in r
changed_held None v = refl
changed_held (Some row) v = refl

-- a change leaves the values held, whether it succeeds or fails
pub held_changed : {A E : Type 0} (m n : BTreeMap Slot StoredRow) (at : Place) (v : Option StoredValue) (r : Result A E) → OnOk r (SetsRow at (Some (changed_row (row_at m at) v)) m n) → OnErr r ((p : Place) → row_at n p ≡ row_at m p) → rows_held n ≡ rows_held m
held_changed m n at v (Ok x) sets same = held_set m n at (Some (changed_row (row_at m at) v)) (changed_held (row_at m at) v) sets
held_changed m n at v (Err e) sets same = held_same m n same

-- changing a row puts the value
pub seen_changed : (m n : BTreeMap Slot StoredRow) (at to : Place) (v : Option StoredValue) → at ≡ to → SetsRow at (Some (changed_row (row_at m at) v)) m n → rows_seen n ≡ put_value (rows_seen m) to (bytes_of v)
seen_changed m n at to v is sets =
    seen_set m n at (Some (changed_row (row_at m at) v)) sets
    ∙ ap (λ (w : Option (List ℕ)). put_value (rows_seen m) at w) (changed_seen (row_at m at) v)
    ∙ ap (λ (p : Place). put_value (rows_seen m) p (bytes_of v)) is
