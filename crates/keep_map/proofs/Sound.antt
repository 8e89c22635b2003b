-- The rows of a keeper stay sound, and a transaction ends with the values that were to be kept.
use Rattle.std.proofs.Common.{◌≡◌, Bool, true, false, cond, List, [], ◌∷◌, ◌++◌, refl, sym, ap, subst, ◌∙◌}
use Rattle.std.specs.Prelude.{Option, Some, None, is_some, ◌||◌}
use Rattle.std.specs.Option.{unwrap_or}
use Rattle.std.specs.BTreeMap.{BTreeMap}
use Rattle.std.proofs.lemmas.List.Folds.{list_any-append}
use Rattle.repl_types.specs.Sizes.{IsKeySize}
use Rattle.keep_map.specs.declared.slot.Slot.{Slot}
use Rattle.keep_map.specs.declared.stored_row.StoredRow.{StoredRow}
use Rattle.keep_map.specs.declared.stored_row.StoredValue.{StoredValue}
use Rattle.keep_map.specs.Places.{Place, same_place}
use Rattle.keep_map.specs.Scattered.{place_of, row_at, seen_in, held_in, kept_in, is_settled, is_named, AreRows, SetsRow, row_holding, settled, bytes_of}
use Rattle.keep_map.proofs.Places.{place_is}

-- a list with one more slot names the places of the list and that of the slot
pub is_named-push : (xs : List Slot) (s : Slot) (p : Place) → is_named (xs ++ s ∷ []) p ≡ (is_named xs p || same_place (place_of s) p)
is_named-push xs s p = list_any-append (λ (x : Slot). same_place (place_of x) p) xs (s ∷ []) ∙ ap (λ (b : Bool). is_named xs p || b) (or_false (same_place (place_of s) p))
  where
    or_false : (b : Bool) → (b || false) ≡ b
    or_false false = refl
    or_false true = refl

-- if not either of two tests passes, neither does
pub neither : (a b : Bool) → (a || b) ≡ false → (a ≡ false) × (b ≡ false)
neither false false e = (refl, refl)
neither false true e = absurd cc
neither true b e = absurd cc

-- a place that the longer list doesn't name is named neither by the list nor by the new slot
unnamed : (xs ys : List Slot) (s : Slot) → ys ≡ xs ++ s ∷ [] → (p : Place) → is_named ys p ≡ false → (is_named xs p ≡ false) × (same_place (place_of s) p ≡ false)
unnamed xs ys s is p none = neither (is_named xs p) (same_place (place_of s) p) (sym (is_named-push xs s p) ∙ ap (λ (l : List Slot). is_named l p) (sym is) ∙ none)

-- rows stay sound if one is set, by conditions on its key and on the lists of slots
sound_set : (m n : BTreeMap Slot StoredRow) (s : Slot) (w : Option StoredRow) (old now : List Slot)
    → (is_some w ≡ true → IsKeySize s.key.items)
    → SetsRow (place_of s) w m n
    → ((p : Place) → is_named now p ≡ false → same_place (place_of s) p ≡ true → is_settled w ≡ true)
    → ((p : Place) → is_named now p ≡ false → same_place (place_of s) p ≡ false → is_named old p ≡ false)
    → AreRows m old → AreRows n now
sound_set m n s w old now key sets here other sound = record {
  keys = λ p is. key_at p (same_place (place_of s) p) refl (ap (λ (r : Option StoredRow). is_some r) (sym (sets p)) ∙ is);
  others = λ p none. ap is_settled (sets p) ∙ other_at p none (same_place (place_of s) p) refl;
}
  where
    key_at : (p : Place) (b : Bool) → same_place (place_of s) p ≡ b → is_some (cond b w (row_at m p)) ≡ true → IsKeySize p.2
    key_at p false e is = sound.keys p is
    key_at p true e is = subst (λ (q : Place). IsKeySize q.2) (place_is (place_of s) p e) (key is)

    other_at : (p : Place) → is_named now p ≡ false → (b : Bool) → same_place (place_of s) p ≡ b → is_settled (cond b w (row_at m p)) ≡ true
    other_at p none false e = sound.others p (other p none e)
    other_at p none true e = here p none e

-- rows stay sound if one is set and its slot is added to the list
pub sound_named : (m n : BTreeMap Slot StoredRow) (s : Slot) (w : Option StoredRow) (old now : List Slot) → IsKeySize s.key.items → now ≡ old ++ s ∷ [] → SetsRow (place_of s) w m n → AreRows m old → AreRows n now
sound_named m n s w old now key longer sets sound =
    let apart = unnamed old now s longer in
    sound_set m n s w old now (λ _. key) sets (λ p none here. absurd (clash here (apart p none).1)) (λ p none _. (apart p none).0) sound
  where
    clash : {b : Bool} → b ≡ true → b ≡ false → ⊥
    clash e f = cc

-- rows stay sound if one is set that is settled if and only if it was before
pub sound_again : (m n : BTreeMap Slot StoredRow) (s : Slot) (w : Option StoredRow) (old now : List Slot) → IsKeySize s.key.items → now ≡ old → is_settled w ≡ is_settled (row_at m (place_of s)) → SetsRow (place_of s) w m n → AreRows m old → AreRows n now
sound_again m n s w old now key same as_before sets sound =
    let none_old : (p : Place) → is_named now p ≡ false → is_named old p ≡ false = λ p none. ap (λ (l : List Slot). is_named l p) (sym same) ∙ none in
    sound_set m n s w old now (λ _. key) sets (λ p none here. as_before ∙ ap (λ (q : Place). is_settled (row_at m q)) (place_is (place_of s) p here) ∙ sound.others p (none_old p none)) (λ p none _. none_old p none) sound

-- a settled row holds the value that was to be kept
pub settled_kept : (keep : Bool) (r : Option StoredRow) → kept_in keep (settled keep r) ≡ kept_in keep r
settled_kept true None = refl
settled_kept false None = refl
settled_kept true (Some row) = at row.now
  where
    at : (v : Option StoredValue) → seen_in (row_holding v) ≡ bytes_of v
    at None = refl
    at (Some v) = refl
settled_kept false (Some row) = at (unwrap_or row.before row.now)
  where
    at : (v : Option StoredValue) → held_in (row_holding v) ≡ bytes_of v
    at None = refl
    at (Some v) = refl

-- settling a row makes it settled
pub is_settled-settled : (keep : Bool) (r : Option StoredRow) → is_settled (settled keep r) ≡ true
is_settled-settled keep None = refl
is_settled-settled keep (Some row) = at (cond keep row.now (unwrap_or row.before row.now))
  where
    at : (v : Option StoredValue) → is_settled (row_holding v) ≡ true
    at None = refl
    at (Some v) = refl

-- if there is a row after settling, there was one before
pub settled_some : (keep : Bool) (r : Option StoredRow) → is_some (settled keep r) ≡ true → is_some r ≡ true
settled_some keep None e = e
settled_some keep (Some row) e = refl

-- there is no row holding no value
pub row_holding_none : (v : Option StoredValue) → is_some v ≡ false → row_holding v ≡ None
row_holding_none None e = refl
row_holding_none (Some v) e = absurd cc

-- the row that holds a value
pub row_holding_some : (v : Option StoredValue) → is_some v ≡ true → row_holding v ≡ Some (record { now = v; before = None })
row_holding_some None e = absurd cc
row_holding_some (Some v) e = refl

-- rows stay sound if one is settled and its slot leaves the list
pub sound_settled : (m n : BTreeMap Slot StoredRow) (s : Slot) (keep : Bool) (old now : List Slot) → old ≡ now ++ s ∷ [] → SetsRow (place_of s) (settled keep (row_at m (place_of s))) m n → AreRows m old → AreRows n now
sound_settled m n s keep old now shorter sets sound =
    sound_set m n s (settled keep (row_at m (place_of s))) old now (λ some. sound.keys (place_of s) (settled_some keep (row_at m (place_of s)) some)) sets (λ _ _ _. is_settled-settled keep (row_at m (place_of s)))
    (λ p none apart. ap (λ (l : List Slot). is_named l p) shorter ∙ is_named-push now s p ∙ ap (λ (b : Bool). b || same_place (place_of s) p) none ∙ apart) sound

-- settling a row changes no value that is to be kept
pub kept_settled : (m n : BTreeMap Slot StoredRow) (s : Slot) (keep : Bool) → SetsRow (place_of s) (settled keep (row_at m (place_of s))) m n → (p : Place) → kept_in keep (row_at n p) ≡ kept_in keep (row_at m p)
kept_settled m n s keep sets p = ap (kept_in keep) (sets p) ∙ at (same_place (place_of s) p) refl
  where
    at : (b : Bool) → same_place (place_of s) p ≡ b → kept_in keep (cond b (settled keep (row_at m (place_of s))) (row_at m p)) ≡ kept_in keep (row_at m p)
    at false e = refl
    at true e = settled_kept keep (row_at m (place_of s)) ∙ ap (λ (q : Place). kept_in keep (row_at m q)) (place_is (place_of s) p e)
