-- Contents in which a unit is captured show no damage that wasn't shown before: proofs.
use Rattle.std.proofs.Common.{◌≡◌, ℕ, zero, suc, Bool, true, false, cond, List, inr, refl, sym, ap, subst, ◌∙◌, Option, Some, None}
use Rattle.world_store.specs.Words.{b32, b64, short_text, change_row_spelling, IsChangeRow, uow_spelling, registration_state_spelling, IsRegistrationState, change_key_spelling, IsChangeKey, ChangeRow, RegState, UowRow, CdKey}
use Rattle.site_store.specs.Words.{Contents, Table, same_key, put_at, AddsOnlySpelt, ShownBefore, adds_put}
use Rattle.repl_model.specs.Words.{same_area, Area, UnitHead}
use Rattle.repl_types.specs.declared.area.Area.TheVariants as areas
use Rattle.stored_commits.specs.units.StoredChanges.{with_uow_row, with_cleared, with_state}
use Rattle.cd_tables.specs.Appending.{Becomes}
use Rattle.cd_tables.specs.Clearing.{ClearsNext}
use Rattle.cd_tables.specs.laws.ClearedTables.{HasCleared, cleared_all}
use Rattle.cd_tables.specs.Rules.{rules, is_called_for, is_misplaced}
use Rattle.cd_tables.proofs.RowsShown.{added_shown}

-- ---- what a step adds

-- A step adds only what is spelled as its table says, changes no registration, and removes no state of one.
pub record Adds (c d : Contents) : Type 0 where
  pub spelt : AddsOnlySpelt rules c d
  pub registrations : d areas.Defs 1 ≡ c areas.Defs 1
  pub states : (key : List ℕ) → d areas.Capture 1 key ≡ None → c areas.Capture 1 key ≡ None

module _ (c d : Contents) (x : Adds c d) where
  -- what a registration stands for stood there before
  stood : (key : List ℕ) → c areas.Defs 1 key ≡ d areas.Defs 1 key
  stood key = sym (ap (λ (t : Table). t key) x.registrations)

  -- a state that is called for and missing was so before
  absent_back : (a : Area) (t : ℕ) (key : List ℕ) → d a t key ≡ None → is_called_for a t key d → (c a t key ≡ None) × is_called_for a t key c
  absent_back areas.Capture (suc zero) key none h = (x.states key none, (h.0, h.1, h.2, record { stands = stood (short_text h.0) ∙ h.3.stands; is = h.3.is }))
  absent_back a t key none h = absurd h

  -- a registration that is misplaced was so before
  unfit_back : (a : Area) (t : ℕ) (key value : List ℕ) → d a t key ≡ Some value → is_misplaced a t key value d → (c a t key ≡ Some value) × is_misplaced a t key value c
  unfit_back areas.Defs (suc zero) key value has h = (stood key ∙ has, h)
  unfit_back a t key value has h = absurd h

  -- so no new damage is shown
  adds_shown : ShownBefore rules c d
  adds_shown = added_shown rules c d x.spelt absent_back unfit_back

-- ---- one write

-- a change row is put
row_adds : (number : ℕ) (key : CdKey) (row : ChangeRow) (c : Contents) → IsChangeKey key → IsChangeRow row → Adds c (put_at c areas.Cd number (change_key_spelling key) (Some (change_row_spelling row)))
row_adds number key row c key_fits fits = record {
  spelt = adds_put rules c areas.Cd number (change_key_spelling key) (change_row_spelling row) (key, key_fits, refl) (row, fits, refl);
  registrations = refl;
  states = λ key none. none;
}

-- the state of a registration is put
state_adds : (number : ℕ) (state : RegState) (c : Contents) → IsRegistrationState state → Adds c (with_state number state c)
state_adds number state c fits = record {
  spelt = adds_put rules c areas.Capture 1 (b32 number) (registration_state_spelling state) tt (state, fits, refl);
  registrations = refl;
  states = λ key none. still (same_key (b32 number) key) (c areas.Capture 1 key) none;
}
  where
    still : (b : Bool) (o : Option (List ℕ)) → cond b (Some (registration_state_spelling state)) o ≡ None → o ≡ None
    still true o none = absurd cc
    still false o none = none

-- the row of a unit is put
unit_adds : (head : UnitHead) (c : Contents) → Adds c (with_uow_row head c)
unit_adds head c = record {
  spelt = adds_put rules c areas.Uow 0 (b64 head.seq) (uow_spelling (record { time = head.time; authid = head.authid; origin = head.origin; code = 0 })) tt tt;
  registrations = refl;
  states = λ key none. none;
}

-- change rows are removed
cleared_adds : (number : ℕ) (after : List ℕ) (c d : Contents) → HasCleared areas.Cd number after c d → Adds c d
cleared_adds number after c d h = record {
  spelt = λ a t key value has. inr (h.left a t key value has);
  registrations = h.others areas.Defs 1 refl;
  states = λ key none. sym (ap (λ (t : Table). t key) (h.others areas.Capture 1 refl)) ∙ none;
}

-- ---- steps

-- what was shown before two steps was shown before the first
pub shown_then : (c d e : Contents) → ShownBefore rules c d → ShownBefore rules d e → ShownBefore rules c e
shown_then c d e first second a cause h = first a cause (second a cause h)

-- nothing happened
pub becomes_itself : (c : Contents) → Becomes (λ x. x) c c
becomes_itself c = (refl, λ a cause h. h)

-- one step after another
pub becomes_then : (f g : Contents → Contents) (c d e : Contents) → Becomes f c d → Becomes g d e → Becomes (λ x. g (f x)) c e
becomes_then f g c d e first second = (second.0 ∙ ap g first.0, shown_then c d e first.1 second.1)

-- a step that a test decides
pub becomes_if : (b t : Bool) (f g : Contents → Contents) (c d : Contents) → b ≡ t → Becomes (λ x. cond t (f x) (g x)) c d → Becomes (λ x. cond b (f x) (g x)) c d
becomes_if b t f g c d same now = (now.0 ∙ ap (λ (x : Bool). cond x (f c) (g c)) (sym same), now.1)

-- a step that adds so
becomes_by : (f : Contents → Contents) (c d : Contents) → Adds c (f c) → d ≡ f c → Becomes f c d
becomes_by f c d x is = (is, subst (ShownBefore rules c) (sym is) (adds_shown c (f c) x))

-- a change row is put
pub becomes_row : (number : ℕ) (key : CdKey) (row : ChangeRow) (c d : Contents) → IsChangeKey key → IsChangeRow row → d ≡ put_at c areas.Cd number (change_key_spelling key) (Some (change_row_spelling row)) → Becomes (λ x. put_at x areas.Cd number (change_key_spelling key) (Some (change_row_spelling row))) c d
becomes_row number key row c d key_fits fits is = becomes_by (λ x. put_at x areas.Cd number (change_key_spelling key) (Some (change_row_spelling row))) c d (row_adds number key row c key_fits fits) is

-- the state of a registration is put
pub becomes_state : (number : ℕ) (state : RegState) (c d : Contents) → IsRegistrationState state → d ≡ with_state number state c → Becomes (with_state number state) c d
becomes_state number state c d fits is = becomes_by (with_state number state) c d (state_adds number state c fits) is

-- the row of a unit is put
pub becomes_unit : (head : UnitHead) (row : UowRow) (c d : Contents) → row ≡ record { time = head.time; authid = head.authid; origin = head.origin; code = 0 } → d ≡ put_at c areas.Uow 0 (b64 head.seq) (Some (uow_spelling row)) → Becomes (with_uow_row head) c d
becomes_unit head row c d is sets = becomes_by (with_uow_row head) c d (unit_adds head c) (sets ∙ ap (λ (r : UowRow). put_at c areas.Uow 0 (b64 head.seq) (Some (uow_spelling r))) is)

-- change rows are removed, which shows no damage that wasn't shown before
pub cleared_shown : (number : ℕ) (after : List ℕ) (c d : Contents) → HasCleared areas.Cd number after c d → ShownBefore rules c d
cleared_shown number after c d cleared = adds_shown c d (cleared_adds number after c d cleared)

-- and once there is no next one, all are
pub becomes_cleared : (number : ℕ) (after : List ℕ) (c d e : Contents) → HasCleared areas.Cd number after c d → ClearsNext number after None d e → Becomes (with_cleared number) c e
becomes_cleared number after c d e cleared last = (cleared_all areas.Cd number after c d e cleared own last, subst (ShownBefore rules c) (sym last.0) (cleared_shown number after c d cleared))
  where
    own : (a : Area) → same_area areas.Cd a ≡ true → areas.Cd ≡ a
    own areas.Cd same = refl
    own a same = absurd cc
