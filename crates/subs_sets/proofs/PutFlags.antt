-- The transaction in which the flag of a set is put.
use Rattle.std.proofs.Common.{◌≡◌, Bool, true, not, cond, length, sym, ap, subst, ◌∙◌, Some}
use Rattle.std.proofs.lemmas.Bool.{not-true}
use Rattle.world_store.specs.Words.{b32, state_spelling, SetState, has_points, source_time, state_of, Holds}
use Rattle.site_store.specs.Words.{Kept, Puts, work, sees, IsOpenAt, Sets, Looks, GoesOn, goes_saw, goes_put, saw_then, any_seen}
use Rattle.site_store.specs.declared.sites.Sites.{Sites}
use Rattle.repl_model.specs.Words.{SetDef, is_replica_set, IsSound, synchpoint, base_of, replica_point, TargetSide, World, KnownSet}
use Rattle.repl_types.specs.declared.area.Area.TheVariants as areas
use Rattle.repl_records.specs.declared.set_state.SetState.TheVariants as states
use Rattle.set_places.specs.declared.placed_set.PlacedSet.{PlacedSet}
use Rattle.set_places.specs.Members.{ForTarget}
use Rattle.set_places.specs.Places.{IsPlacedAs}
use Rattle.set_places.specs.laws.Standing.{target_seen}
use Rattle.stored_commits.specs.actions.FlaggedServers.{with_state}
use Rattle.subs_sets.specs.Flagging.{PutsFlag}
use Rattle.subs_sets.specs.States.{state_in}
use Rattle.subs_sets.specs.declared.states.ReadOnlyState.{ReadOnlyState}

-- the state that is put, if this was read
abbrev with_flag_set : ReadOnlyState → SetState
with_flag_set known = states.ReadOnly known.has_points known.synchpoint known.time known.base true known.entries

-- it is how far the set is with its flag set, if what was read is how far it is
state_put : (w : World) (k : KnownSet) → not (is_replica_set k.at_target.def) ≡ true → with_flag_set (state_in w k) ≡ state_of w (record k.at_target { flag = true })
state_put w k read_only = sym (ap (λ (b : Bool). cond b
    (states.Replica (has_points side.trail) (synchpoint side.trail) (replica_point side.trail) side.signal (length side.trail))
    (states.ReadOnly (has_points side.trail) (synchpoint side.trail) (source_time w side.def (synchpoint side.trail)) (base_of side.trail) true (length side.trail))) (not-true (is_replica_set side.def) read_only))
  where
    side : TargetSide
    side = k.at_target

module _ {K : Type 0} (kept : K → Kept) (s1 s2 : Sites K) (set : PlacedSet) (open_at : IsOpenAt (work kept s1) set.target) (looks : Looks kept s1 s2) where
  -- whatever was read, the transaction went on
  pub went_on : GoesOn kept s1 s2 set.target (λ c d. Unit {0})
  went_on = goes_saw kept s1 s2 set.target (λ c. Unit {0}) (λ c d. Unit {0}) open_at looks (any_seen (sees kept s1 set.target)) (λ c n. tt)

  -- the state is read, and then put with its flag set
  pub flag_put : (s3 : Sites K) (known : ReadOnlyState) → not (is_replica_set set.at_target.def) ≡ true → ForTarget kept s1 set (λ w k. known ≡ state_in w k) → Puts kept s2 s3 set.target areas.SetState 0 (b32 set.at_target.number) (Some (state_spelling (with_flag_set known))) → GoesOn kept s1 s3 set.target (PutsFlag set)
  flag_put s3 known read_only read put =
      let number = set.at_target.number in
      let new = Some (state_spelling (with_flag_set known)) in
      saw_then kept s1 s2 s3 set.target (λ c. (w : World) (k : KnownSet) → IsSound w → IsPlacedAs w k set → Holds w k.target c → known ≡ state_in w k) (Sets areas.SetState 0 (b32 number) new) (PutsFlag set) open_at looks (target_seen set (λ w k. known ≡ state_in w k) kept s1 read) (goes_put kept s2 s3 set.target areas.SetState 0 (b32 number) new put)
      (λ c d known_is puts w k sound placed holds. puts ∙ ap (λ (state : SetState). with_state number state c) (ap with_flag_set (known_is w k sound placed holds) ∙ state_put w k (subst (λ (def : SetDef). not (is_replica_set def) ≡ true) placed.target_def read_only)))
