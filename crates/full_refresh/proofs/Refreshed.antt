-- What a refresh makes of a world: proofs.
use Rattle.std.proofs.Common.{◌≡◌, ◌⊎◌, ℕ, Bool, false, true, List, length, inl, inr, refl, sym, ap, subst, ◌∙◌, Option}
use Rattle.std.specs.Option.{option_map_or}
use Rattle.world_store.specs.Words.{Head, head_of, Holds, Reveals, Stands, source_time, set_rows_refreshed, trail_entry}
use Rattle.site_store.specs.Words.{Contents, Kept, names, held, sees}
use Rattle.site_store.specs.declared.sites.Sites.{Sites}
use Rattle.repl_model.specs.Words.{Area, DamageCause, Counts, Fault, TargetKind, base_point, refresh_entry, refreshed, after_action, refreshes, time_at, IsSound, read_only_sets, refresh, units, last_commit, last_time, Server, World, KnownSet, known_sets, known_stands, In, TargetSet}
use Rattle.repl_types.specs.declared.fault.Fault.TheVariants as faults
use Rattle.repl_types.specs.declared.fault.Stepped.TheVariants as steps
use Rattle.stored_commits.specs.actions.StoredSteps.{is_numbered, PutsStep, refreshed_state}
use Rattle.subs_sets.specs.States.{state_in}
use Rattle.subs_sets.specs.declared.states.ReadOnlyState.{ReadOnlyState}
use Rattle.set_places.specs.declared.placed_set.PlacedSet.{PlacedSet}
use Rattle.set_places.specs.Places.{IsPlacedAs, IsReadOnly}
use Rattle.set_places.specs.Steps.{HasBecome, HasStepped}
use Rattle.set_places.specs.laws.Commits.{has_become}
use Rattle.set_places.specs.laws.Known.{is_among}
use Rattle.set_places.specs.laws.Standing.{revealed_at_place}
use Rattle.target_steps.specs.declared.step.Step.{Step}
use Rattle.target_steps.specs.declared.step.Step.TheVariants.{Refresh}
use Rattle.target_steps.specs.Taking.{CanStep}
use Rattle.target_steps.specs.Steps.{PutsTargets, PutsSomeTargets}
use Rattle.target_steps.specs.laws.Stepped.{none_numbered, counts_are, step_put, has_targets}
use Rattle.full_refresh.specs.Refreshes.{CanRefresh, HasRefreshed}
use Rattle.world_commits.specs.laws.ActionsStaySound.{actions_sound}
use Rattle.stored_commits.specs.laws.Steps.{others_hold_step, refresh_holds}
use Rattle.stored_commits.specs.laws.StepTables.{refresh_is_stored}
use Rattle.full_refresh.proofs.LastUnits.{time_is_last}

-- ---- in a world

-- the targets of a set can be loaded at the end of its source's log
pub can_load : (k : KnownSet) (at : Head) → at ≡ head_of k.source → CanStep k (Refresh at.commit at.time)
can_load k at is = subst (λ (h : Head). CanStep k (Refresh h.commit h.time)) (sym is) (record { last = refl; timed = sym (time_is_last k.source.log) })

module _ (takes : TargetKind → Bool) (unnumbered : (kind : TargetKind) → takes kind ≡ true → is_numbered kind ≡ false) (w : World) (k : KnownSet) (set : PlacedSet) (sound : IsSound w) (placed : IsPlacedAs w k set) (read_only : IsReadOnly k) (can_refresh : CanRefresh takes k) where
  -- the set is one of the read-only sets
  among : In k (read_only_sets (known_sets w))
  among = is_among w k set placed read_only

  -- the world after the refresh
  abbrev after : World
  after = after_action w k refreshes

  -- it is sound
  sound_after : IsSound after
  sound_after = actions_sound w k refreshes sound among can_refresh.0

  -- its point is the last commit of the source
  abbrev point : ℕ
  point = last_commit k.source.log

  -- and the time there is that of the last commit
  time_is : source_time w k.at_target.def point ≡ last_time (units k.source.log)
  time_is = ap (λ (o : Option Server). option_map_or (λ source. time_at source.log point) o 0) (known_stands w k placed.known).source ∙ time_is_last k.source.log

  -- the refresh can be made at it
  abbrev step : Step
  step = Refresh point (last_time (units k.source.log))

  can : CanStep k step
  can = can_load k (head_of k.source) refl

  module _ {K : Type 0} (kept : K → Kept) (shows : Option TargetSet → Area → DamageCause → Option Contents → Type 0) (sites : Sites K) (reveals : Reveals w k.source (sees kept sites set.source)) (at : Head) (at_is : at ≡ head_of k.source) (known : ReadOnlyState) (known_is : known ≡ state_in w k) (counts : Counts) (c d : Contents) (holds : Holds w k.target c) (puts : PutsTargets kept takes shows sites set (Refresh at.commit at.time) known counts c d) where
    -- it was put at that point and time
    puts_there : PutsTargets kept takes shows sites set step known counts c d
    puts_there = subst (λ (h : Head). PutsTargets kept takes shows sites set (Refresh h.commit h.time) known counts c d) at_is puts

    -- the rows that were put
    pub rows_are : counts.rows ≡ set_rows_refreshed w k.at_target.def point (base_point k)
    rows_are = ap (λ (n : Counts). n.rows) (counts_are takes w k set sound placed read_only step can can_refresh.1 kept shows sites reveals known known_is counts c d holds puts_there)

    -- what was put makes the step of the world
    put : PutsStep set.at_target.number (refreshed_state point (source_time w k.at_target.def point) (length k.at_target.trail)) (length k.at_target.trail) (trail_entry w k.at_target.def (refresh point (base_point k))) c d
    put = subst (λ (time : ℕ). PutsStep set.at_target.number (refreshed_state point time (length k.at_target.trail)) (length k.at_target.trail) (trail_entry w k.at_target.def (refresh point (base_point k))) c d) (sym time_is)
        (step_put takes w k set sound placed read_only step can can_refresh.1 kept shows sites reveals known known_is counts c d holds puts_there)

    -- so the target holds what the world after the refresh calls for
    pub refreshed_holds : Holds after (refreshed k.at_target.def (refresh_entry k) k.target) d
    refreshed_holds = refresh_holds w k set.at_target.number (refresh_entry k) c d sound among placed.at_target holds
        (refresh_is_stored w k set.at_target.number point (base_point k) c d sound among placed.at_target sound_after holds (none_numbered takes unnumbered w k sound placed.known can_refresh.1) put
        (has_targets takes w k set sound placed read_only step can can_refresh.1 kept shows sites reveals known known_is counts c d holds puts_there))

  -- ---- at the servers

  module _ {K : Type 0} (kept : K → Kept) (shows : Option TargetSet → Area → DamageCause → Option Contents → Type 0) (s0 s1 s2 : Sites K) (stands : Stands (names s0) (held kept s0) w) (reveals : Reveals w k.source (sees kept s1 set.source)) (at : Head) (at_is : at ≡ head_of k.source) (known : ReadOnlyState) (known_is : known ≡ state_in w k) where
    -- once the refresh is put, they stand for the world after it
    pub has_refreshed : HasStepped kept s0 s2 set.target (PutsSomeTargets kept takes shows s1 set (Refresh at.commit at.time) known) → HasBecome kept s0 s2 after
    has_refreshed stepped = has_become kept s0 s2 w set.target k.target (refreshed k.at_target.def (refresh_entry k)) (PutsSomeTargets kept takes shows s1 set (Refresh at.commit at.time) known) stands placed.target (λ s. refl) sound_after
        (λ c d holds p. refreshed_holds kept shows s1 reveals at at_is known known_is p.0 c d holds p.1)
        (λ other c i apart holds. (others_hold_step w k (refresh_entry k) other c holds).1) stepped

    -- if the call failed, they may still stand for the world before it, and for the one after it only if a keeper failed
    pub may_have_refreshed : (e : Fault) → (held kept s2 ≡ held kept s0) ⊎ ((e ≡ faults.Keeper set.target) × HasStepped kept s0 s2 set.target (PutsSomeTargets kept takes shows s1 set (Refresh at.commit at.time) known)) → HasBecome kept s0 s2 w ⊎ ((s : ℕ) × (e ≡ faults.Keeper s) × HasBecome kept s0 s2 after)
    may_have_refreshed e (inl same) = inl (subst (λ (h : List (Option Contents)). Stands (names s0) h w) (sym same) stands)
    may_have_refreshed e (inr stepped) = inr (set.target, stepped.0, has_refreshed stepped.1)

    -- what is answered is the point and the rows
    pub has_answered : (counts : Counts) → HasStepped kept s0 s2 set.target (PutsTargets kept takes shows s1 set (Refresh at.commit at.time) known counts) → HasRefreshed kept s0 s2 w k (steps.Refresh at.commit counts.rows)
    has_answered counts stepped =
        let r = revealed_at_place (names s0) (held kept s0) w set.target k.target stands placed.target in
        let d = stepped r.0 r.1 in
        let put = rows_are kept shows s1 reveals at at_is known known_is counts r.0 d.0 r.2 d.2 in (
          has_refreshed (λ b is. let e = stepped b is in (e.0, e.1, (counts, e.2))),
          λ i. steps.Refresh (at_is i).commit (put i),
        )
