use Rattle.std.proofs.Common.{◌≡◌, Bool, true, false, List, [], ◌∷◌, ◌++◌, length, take, Some, None, refl, sym, ap, subst, ◌∙◌, arith}
use Rattle.std.specs.Prelude.{Option, IsSome, is_some, not, ◌&&◌}
use Rattle.std.specs.Option.{option_to_list}
use Rattle.std.specs.List.{each_same}
use Rattle.std.proofs.Math.Seq.{take-append_seam}
use Rattle.std.proofs.lemmas.List.{length-append}
use Rattle.keep_map.specs.declared.stored_row.StoredRow.{StoredRow}
use Rattle.keep_map.specs.declared.stored_row.StoredValue.{StoredValue}
use Rattle.repl_types.specs.Sizes.{IsKeySize}
use Rattle.keep_map.specs.declared.slot.Slot.{Slot}
use Rattle.keep_map.specs.Places.{Place}
use Rattle.keep_map.specs.Scattered.{is_changed, is_settled, place_of, row_at, changed_row, SetsRow}
use Rattle.keep_map.proofs.Sound.{sound_named, sound_again}
use Rattle.keep_map.proofs.scattered_rows.ScatteredRows.change.Goals as goal

-- a row that the transaction changed isn't settled
unsettled : (r : Option StoredRow) (value : Option StoredValue) → is_settled (Some (changed_row r value)) ≡ false
unsettled None value = refl
unsettled (Some row) value = refl

-- nor is a row that it changed before
changed_before : (r : Option StoredRow) → is_changed r ≡ true → is_settled r ≡ false
changed_before None e = absurd cc
changed_before (Some row) e = ap (λ (b : Bool). not b && is_some row.now) e

-- two lists with one more element each: if they are then equal, they were equal before
before_last : (xs ys : List Slot) (x : Slot) (r : Option Slot) → IsSome r → xs ++ x ∷ [] ≡ ys ++ option_to_list r → ys ≡ xs
before_last xs ys x None some e = absurd cc
before_last xs ys x (Some y) some e =
    let same : length ys ≡ length xs = omega (arith, length-append xs (x ∷ []), length-append ys (y ∷ []), ap length e) in
    sym (take-append_seam ys (y ∷ [])) ∙ ap (λ n. take n (ys ++ y ∷ [])) same ∙ ap (take (length xs)) (sym e) ∙ take-append_seam xs (x ∷ [])

pub invariant_of-self-then-was_named : goal.invariant_of-self-then-was_named
invariant_of-self-then-was_named c =
    let m = c.args.self.now.map in
    let s = c.args.slot in
    let before = row_at m (place_of s) in
    let xs = c.args.self.now.touched.items in
    let some = c.pop.ensures.variant.1 (omega (arith, c.in_ok-push.ensures.len)) in
    let back = before_last xs c.pop.new.self.items c.in_ok-clone.field-0 c.pop.result some (sym c.in_ok-push.ensures.items ∙ c.pop.ensures.items) in
    record { sound = sound_again m c.change_row.new.map s (Some (changed_row before c.args.value)) xs c.pop.new.self.items c.requires back (unsettled before c.args.value ∙ sym (changed_before before (sym c.in_ok-was_named.ensures.changed ∙ c.if-was_named.true))) c.in_ok-was_named.ensures.ok c.args.self.now.sound }

pub invariant_of-self-else-was_named : goal.invariant_of-self-else-was_named
invariant_of-self-else-was_named c =
    let m = c.args.self.now.map in
    let s = c.args.slot in
    let copy = c.in_ok-clone.field-0 in
    let w = Some (changed_row (row_at m (place_of s)) c.args.value) in
    let h = c.in_ok-clone.ensures.cases in
    let same : place_of s ≡ place_of copy = λ i. (sym h.0 i, sym h.1.0 i, sym (each_same s.key.items copy.key.items h.1.1.0) i) in
    record { sound = sound_named m c.change_row.new.map copy w c.args.self.now.touched.items c.push.new.self.items (subst (λ (p : Place). IsKeySize p.2) same c.requires) c.in_ok-push.ensures.items (subst (λ (p : Place). SetsRow p w m c.change_row.new.map) same c.in_ok-was_named.ensures.ok) c.args.self.now.sound }
