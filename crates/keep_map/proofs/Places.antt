-- The order of places, and the rows at places after a change of a map.
use Rattle.std.proofs.Common.{◌≡◌, ℕ, Bool, true, false, cond, List, refl, sym, ap, subst, ◌∙◌}
use Rattle.std.specs.Prelude.{Option, Some, IsSome}
use Rattle.std.specs.BTreeMap.{BTreeMap, UpdatesBy}
use Rattle.std.specs.Map.{lookup}
use Rattle.std.specs.Ordering.{nat_cmp, ordering_then}
use Rattle.std.specs.Cmp.{IsTotalOrder, nat_cmp_total, on_total, then_total, Equal-is}
use Rattle.std.specs.Cmp.Lexicographic.{nat_list_cmp_total}
use Rattle.std.proofs.lemmas.Map.Lookups.{exact_unsigned, exact_bytes, exact_pairs}
use Rattle.repl_types.specs.Bytes.{bytes_cmp}
use Rattle.keep_map.specs.declared.slot.Slot.{Slot}
use Rattle.keep_map.specs.declared.stored_row.StoredRow.{StoredRow}
use Rattle.keep_map.specs.Places.{Place, place_cmp, same_place}
use Rattle.keep_map.specs.Scattered.{place_of, slot_cmp, row_at, SetsRow}
use Rattle.keep_map.proofs.Updates.{is_set}

-- places have a total order
pub places_total : IsTotalOrder place_cmp
places_total = then_total (on_total (λ (x : Place). x.0) nat_cmp_total) (then_total (on_total (λ (x : Place). x.1) nat_cmp_total) (on_total (λ (x : Place). x.2) nat_list_cmp_total))

-- places that are the same are equal
pub place_is : (x y : Place) → same_place x y ≡ true → x ≡ y
place_is x y e = let turned : ℕ × (ℕ × List ℕ) → Place = λ p. (p.0, p.1.0, p.1.1) in ap turned (exact_pairs nat_cmp (λ (p q : ℕ × List ℕ). ordering_then (nat_cmp p.0 q.0) (bytes_cmp p.1 q.1)) exact_unsigned (exact_pairs nat_cmp bytes_cmp exact_unsigned exact_bytes) (x.0, (x.1, x.2)) (y.0, (y.1, y.2)) ((Equal-is (place_cmp x y)).0 e))

-- a change of the map at a slot sets the row at its place
pub row_is_set : (m n : BTreeMap Slot StoredRow) (s : Slot) (w : Option StoredRow) → UpdatesBy slot_cmp (slot_cmp s) m n w → SetsRow (place_of s) w m n
row_is_set m n s w h = is_set place_cmp places_total place_is place_of m n s w h

-- setting a row as it is changes nothing
row_kept : (m : BTreeMap Slot StoredRow) (at : Place) (w : Option StoredRow) → w ≡ row_at m at → (p : Place) → cond (same_place at p) w (row_at m p) ≡ row_at m p
row_kept m at w is p = by_cases (same_place at p) refl
  where
    by_cases : (b : Bool) → same_place at p ≡ b → cond b w (row_at m p) ≡ row_at m p
    by_cases false e = refl
    by_cases true e = is ∙ ap (λ (q : Place). row_at m q) (place_is at p e)

-- a map that stays as it was sets a row to what it was
pub sets_unchanged : (m n : BTreeMap Slot StoredRow) (at : Place) (w : Option StoredRow) → w ≡ row_at m at → n.entries ≡ m.entries → SetsRow at w m n
sets_unchanged m n at w is same p = ap (λ es. lookup (λ (s : Slot). same_place p (place_of s)) es) same ∙ sym (row_kept m at w is p)

-- of two rows that are set at one place, the second remains
pub sets_again : (m n o : BTreeMap Slot StoredRow) (at : Place) (v w : Option StoredRow) → SetsRow at v m n → SetsRow at w n o → SetsRow at w m o
sets_again m n o at v w first second p = second p ∙ ap (λ (r : Option StoredRow). cond (same_place at p) w r) (first p) ∙ by_cases (same_place at p)
  where
    by_cases : (b : Bool) → cond b w (cond b v (row_at m p)) ≡ cond b w (row_at m p)
    by_cases false = refl
    by_cases true = refl

-- a change through a reference to a row that was found sets that row
pub written_through : (m n : BTreeMap Slot StoredRow) (s : Slot) (old new : StoredRow) → Some old ≡ row_at m (place_of s) → (IsSome (row_at m (place_of s)) → UpdatesBy slot_cmp (slot_cmp s) m n (Some new)) → SetsRow (place_of s) (Some new) m n
written_through m n s old new found h = row_is_set m n s (Some new) (h (subst (λ (r : Option StoredRow). IsSome r) found refl))
