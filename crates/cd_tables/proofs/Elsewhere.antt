-- The tables that the capture of a unit leaves as they are: proofs.
use Rattle.std.proofs.Common.{◌≡◌, ℕ, zero, suc, Bool, true, false, cond, ◌&&◌, ◌==◌, List, inl, inr, refl, ap, ◌∙◌, arith, Some}
use Rattle.world_store.specs.Words.{differ_numbers, b32, registration_state_spelling, RegState}
use Rattle.site_store.specs.Words.{Contents, Table, set_key, with_table}
use Rattle.repl_model.specs.Words.{same_area, Area, CdRow, Change, Placed, DefinedRegistration, rows_of}
use Rattle.repl_types.specs.declared.area.Area.TheVariants as areas
use Rattle.repl_types.specs.declared.record.Change.TheVariants.{Insert, Update, Delete, Start, Stop}
use Rattle.stored_commits.specs.units.StoredChanges.{with_change_rows, cleared, with_cleared, is_captured, with_state, with_change, CapturesChange}
use Rattle.stored_commits.specs.laws.CapturedPuts.{other_areas}
use Rattle.cd_tables.specs.Appending.{is_of_unit}
use Rattle.cd_tables.proofs.Signals.{active_state, inactive_state}

-- no change-data table is another table
no_change_data : (a : Area) (n : ℕ) → is_of_unit a n ≡ false → same_area areas.Cd a ≡ false
no_change_data areas.Cd n other = absurd cc
no_change_data a n other = refl

-- nor is the unit-of-work table
pub uow_elsewhere : (t : Table) (c : Contents) (a : Area) (n : ℕ) → is_of_unit a n ≡ false → with_table c areas.Uow 0 t a n ≡ c a n
uow_elsewhere t c areas.Uow zero other = absurd cc
uow_elsewhere t c areas.Uow (suc n) other = ap (λ (b : Bool). cond b t (c areas.Uow (suc n))) (differ_numbers 0 (suc n) (omega arith))
uow_elsewhere t c a n other = refl

-- nor that of the states of registrations
state_elsewhere : (t : Table) (c : Contents) (a : Area) (n : ℕ) → is_of_unit a n ≡ false → with_table c areas.Capture 1 t a n ≡ c a n
state_elsewhere t c areas.Capture zero other = refl
state_elsewhere t c areas.Capture (suc zero) other = absurd cc
state_elsewhere t c areas.Capture (suc (suc n)) other = ap (λ (b : Bool). cond b t (c areas.Capture (suc (suc n)))) (differ_numbers 1 (suc (suc n)) (omega arith))
state_elsewhere t c a n other = refl

-- a state is put
put_elsewhere : (number : ℕ) (state : RegState) (c : Contents) (a : Area) (n : ℕ) → is_of_unit a n ≡ false → with_state number state c a n ≡ c a n
put_elsewhere number state c a n other = state_elsewhere (set_key (c areas.Capture 1) (b32 number) (Some (registration_state_spelling state))) c a n other

-- a change is captured
captured_elsewhere : (seq : ℕ) (placed : Placed) (reg : DefinedRegistration) (state : RegState) (c : Contents) (a : Area) (n : ℕ) → is_of_unit a n ≡ false → with_change seq placed reg state c a n ≡ c a n
captured_elsewhere seq placed reg state c a n other = by_kind placed.change
  where
    rows : (b : Bool) (made : List CdRow) → cond b (with_change_rows reg.number made c) c a n ≡ c a n
    rows true made = other_areas reg.number n a made c (no_change_data a n other)
    rows false made = refl

    start : (b : Bool) → cond b c (with_state reg.number (active_state seq state) c) a n ≡ c a n
    start true = refl
    start false = put_elsewhere reg.number (active_state seq state) c a n other

    stop : (b : Bool) → cond b (with_cleared reg.number (with_state reg.number (inactive_state state) c)) c a n ≡ c a n
    stop true =
        let d = with_state reg.number (inactive_state state) c in
        ap (λ (b : Bool). cond (b && (reg.number == n)) (cleared (d areas.Cd reg.number)) (d a n)) (no_change_data a n other) ∙ put_elsewhere reg.number (inactive_state state) c a n other
    stop false = refl

    by_kind : (change : Change) → with_change seq (record placed { change = change }) reg state c a n ≡ c a n
    by_kind (Insert table row) = rows (is_captured seq state) (rows_of reg.registration seq placed.pos (Insert table row))
    by_kind (Update table before after) = rows (is_captured seq state) (rows_of reg.registration seq placed.pos (Update table before after))
    by_kind (Delete table row) = rows (is_captured seq state) (rows_of reg.registration seq placed.pos (Delete table row))
    by_kind (Start table) = start state.active
    by_kind (Stop table) = stop state.active

-- if its table is registered
pub change_elsewhere : (seq : ℕ) (placed : Placed) (count : ℕ) (c d : Contents) → CapturesChange seq placed count c d → (a : Area) (n : ℕ) → is_of_unit a n ≡ false → d a n ≡ c a n
change_elsewhere seq placed count c d (inl none) a n other = ap (λ (f : Contents). f a n) none.1
change_elsewhere seq placed count c d (inr some) a n other = ap (λ (f : Contents). f a n) some.3 ∙ captured_elsewhere seq placed some.0 some.1 c a n other
