-- What was read of how far a set is at its target.
use Rattle.std.proofs.Common.{◌≡◌, ℕ, Bool, true, false, not, cond, List, length, refl, sym, ap, subst, ◌∙◌, Option, Some, None, IfSome}
use Rattle.std.proofs.lemmas.Bool.{not-true}
use Rattle.world_store.specs.Words.{b32, one_whole, state_spelling, IsState, SetState, one_state, has_points, source_time, state_of, Reveals}
use Rattle.site_store.specs.Words.{Contents, or_first}
use Rattle.repl_model.specs.Words.{SetDef, TargetSet, IsTargetSet, is_replica_set, IsSound, synchpoint, base_of, replica_point, TargetSide, World, KnownSet, at_place_in}
use Rattle.repl_types.specs.declared.area.Area.TheVariants as areas
use Rattle.repl_records.specs.declared.set_state.SetState.TheVariants as states
use Rattle.set_places.specs.declared.placed_set.PlacedSet.{PlacedSet}
use Rattle.set_places.specs.Places.{HasTargetRow, IsPlacedAs}
use Rattle.subs_sets.specs.Rules.{state_rules}
use Rattle.subs_sets.specs.States.{first_state_of, state_in, HasState}
use Rattle.subs_sets.specs.declared.states.ReadOnlyState.{ReadOnlyState}
use Rattle.subs_sets.specs.laws.States.{state_fits, state_at}

-- what was read is how far the set is in the world
pub state_is : (w : World) (k : KnownSet) (set : PlacedSet) (saw : Option Contents) (state : SetState) → IsSound w → IsPlacedAs w k set → Reveals w k.target saw → IsState state → IfSome saw (HasState set.at_target state) → state ≡ state_of w k.at_target
state_is w k set saw state sound placed reveals fits has =
    let i = at_place_in w set.target k.target placed.target in
    let n = set.at_target.number in
    let read : HasState set.at_target state reveals.0 = subst (λ (o : Option Contents). IfSome o (HasState set.at_target state)) reveals.1 has in
    one_whole IsState state_spelling one_state state (state_of w k.at_target) fits (state_fits w k.target sound i k.at_target (at_place_in k.target.target_sets n k.at_target placed.at_target))
    (read ∙ ap (λ (def : SetDef). or_first state_spelling (first_state_of def) (reveals.0 areas.SetState 0 (b32 n))) placed.target_def ∙ state_at w k.target sound i reveals.0 reveals.2 n k.at_target placed.at_target)

-- the parts of the state of a read-only set
abbrev pub parts_of : SetState → ReadOnlyState
parts_of (states.ReadOnly has_points synchpoint time base flag entries) = record { has_points = has_points; synchpoint = synchpoint; time = time; base = base; flag = flag; entries = entries }
parts_of (states.Replica has_points m f signal entries) = record { has_points = has_points; synchpoint = m; time = 0; base = f; flag = false; entries = entries }

-- they are how far the set is in the world
pub parts_are : (w : World) (k : KnownSet) → not (is_replica_set k.at_target.def) ≡ true → parts_of (state_of w k.at_target) ≡ state_in w k
parts_are w k read_only = ap (λ (b : Bool). parts_of (cond b
    (states.Replica (has_points side.trail) (synchpoint side.trail) (replica_point side.trail) side.signal (length side.trail))
    (states.ReadOnly (has_points side.trail) (synchpoint side.trail) (source_time w side.def (synchpoint side.trail)) (base_of side.trail) side.flag (length side.trail)))) (not-true (is_replica_set k.at_target.def) read_only)
  where
    side : TargetSide
    side = k.at_target

-- the state of a replica set stands where a read-only set is, and doesn't fit there
pub unfit_there : (row : TargetSet) (has_points : Bool) (m f signal entries : ℕ) (c : Contents) → IsTargetSet row → not (is_replica_set row.def) ≡ true → IsState (states.Replica has_points m f signal entries) → HasTargetRow row c → HasState row (states.Replica has_points m f signal entries) c
    → (c areas.SetState 0 (b32 row.number) ≡ Some (state_spelling (states.Replica has_points m f signal entries))) × state_rules.is_unfit areas.SetState 0 (b32 row.number) (state_spelling (states.Replica has_points m f signal entries)) c
unfit_there row has_points m f signal entries c spelled read_only fits there has = (stands (c areas.SetState 0 (b32 row.number)) refl has, (row.number, refl, (there.0, row, spelled, there.1, refl, not-true (is_replica_set row.def) read_only), (state, fits, tt, refl)))
  where
    state : SetState
    state = states.Replica has_points m f signal entries

    first : first_state_of row.def ≡ states.ReadOnly false 0 0 0 false 0
    first = ap (λ (b : Bool). cond b (states.Replica false 0 0 0 0) (states.ReadOnly false 0 0 0 false 0)) (not-true (is_replica_set row.def) read_only)

    stands : (found : Option (List ℕ)) → c areas.SetState 0 (b32 row.number) ≡ found → state_spelling state ≡ or_first state_spelling (first_state_of row.def) found → c areas.SetState 0 (b32 row.number) ≡ Some (state_spelling state)
    stands None is e = absurd (differs (e ∙ ap state_spelling first))
      where
        differs : state_spelling state ≡ state_spelling (states.ReadOnly false 0 0 0 false 0) → ⊥
        differs e = absurd cc
    stands (Some bytes) is e = is ∙ ap Some (sym e)
