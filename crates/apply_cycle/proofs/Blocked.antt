-- What a block makes of a world: proofs.
use Rattle.std.proofs.Common.{◌≡◌, ◌⊎◌, ℕ, Bool, true, false, ◌||◌, List, [], ◌∷◌, length, inl, inr, refl, sym, ap, subst, ◌∙◌, arith, ◌==◌, if◌then◌else◌, Option, None}
use Rattle.std.specs.List.{AllByRecursion, list_any}
use Rattle.std.specs.Option.{option_map_or}
use Rattle.std.proofs.lemmas.Bool.{cond-false}
use Rattle.world_store.specs.Words.{Holds, Becomes, Reveals, Stands, source_time, set_changes, trail_entry}
use Rattle.site_store.specs.Words.{Contents, Kept, names, held, sees}
use Rattle.site_store.specs.declared.sites.Sites.{Sites}
use Rattle.repl_model.specs.Words.{Area, DamageCause, Counts, Fault, Member, TargetKind, SetDef, is_base_aggregate, base_point, block_entry, with_entry, after_action, blocks, IsSound, read_only_sets, time_at, Entry, block, synchpoint, base_of, Server, World, KnownSet, known_sets, known_stands, In, TargetSet}
use Rattle.repl_types.specs.declared.fault.Fault.TheVariants as faults
use Rattle.repl_types.specs.declared.fault.Stepped.TheVariants as steps
use Rattle.repl_definitions.specs.declared.member.TargetKind.TheVariants.{UserCopy, PointInTime, BaseAggregate, ChangeAggregate, Ccd, Replica}
use Rattle.stored_commits.specs.actions.ActedServers.{is_of_step, with_step}
use Rattle.stored_commits.specs.actions.StoredSteps.{is_numbered, PutsStep, block_state}
use Rattle.subs_sets.specs.Cuts.{time_from}
use Rattle.subs_sets.specs.States.{state_in}
use Rattle.subs_sets.specs.declared.states.ReadOnlyState.{ReadOnlyState}
use Rattle.set_places.specs.declared.placed_set.PlacedSet.{PlacedSet}
use Rattle.set_places.specs.Places.{IsPlacedAs, IsReadOnly}
use Rattle.set_places.specs.Steps.{HasBecome, HasStepped}
use Rattle.set_places.specs.laws.Commits.{has_become}
use Rattle.set_places.specs.laws.Known.{is_among, same_def}
use Rattle.set_places.specs.laws.Standing.{revealed_at_place}
use Rattle.target_steps.specs.declared.step.Step.{Step}
use Rattle.target_steps.specs.declared.step.Step.TheVariants.{Block}
use Rattle.target_steps.specs.Taking.{CanStep, counts_of}
use Rattle.target_steps.specs.Steps.{PutsTargets, PutsSomeTargets}
use Rattle.target_steps.specs.laws.Stepped.{none_numbered, counts_are, step_put, has_targets}
use Rattle.apply_cycle.specs.Blocks.{CanBlock, HasBlocked}
use Rattle.apply_cycle.specs.laws.Intervals.{members_kept, units_kept, end_time}
use Rattle.world_commits.specs.laws.ActionsStaySound.{actions_sound}
use Rattle.stored_commits.specs.laws.Steps.{block_holds, others_hold_step}
use Rattle.stored_commits.specs.laws.StepTables.{block_is_stored}

-- ---- base aggregates

-- a kind whose rows aren't numbered is no base aggregate
plain_kind : (kind : TargetKind) → is_numbered kind ≡ false → is_base_aggregate kind ≡ false
plain_kind UserCopy e = refl
plain_kind PointInTime e = refl
plain_kind BaseAggregate e = absurd cc
plain_kind ChangeAggregate e = refl
plain_kind (Ccd complete condensed) e = refl
plain_kind Replica e = refl

-- so none of such members is one
none_aggregate : (members : List Member) → AllByRecursion (λ member. is_numbered member.kind ≡ false) members → list_any (λ member. is_base_aggregate member.kind) members ≡ false
none_aggregate [] all = refl
none_aggregate (m ∷ ms) all = ap (λ (b : Bool). b || list_any (λ member. is_base_aggregate member.kind) ms) (plain_kind m.kind all.0) ∙ none_aggregate ms all.1

-- ---- in a world

module _ (takes : TargetKind → Bool) (unnumbered : (kind : TargetKind) → takes kind ≡ true → is_numbered kind ≡ false) (w : World) (k : KnownSet) (set : PlacedSet) (sound : IsSound w) (placed : IsPlacedAs w k set) (read_only : IsReadOnly k) (upto : ℕ) (can_block : CanBlock takes k upto) where
  -- the set is one of the read-only sets
  among : In k (read_only_sets (known_sets w))
  among = is_among w k set placed read_only

  -- the time at a point of the source
  time_is_at : (point : ℕ) → source_time w k.at_target.def point ≡ time_at k.source.log point
  time_is_at point = ap (λ (o : Option Server). option_map_or (λ source. time_at source.log point) o 0) (known_stands w k placed.known).source

  -- no base aggregate is read
  no_base : (if upto == k.source.captured then base_point k else None) ≡ None
  no_base =
      let plain = none_aggregate k.at_source.def.members (subst (λ (def : SetDef). AllByRecursion (λ member. is_numbered member.kind ≡ false) def.members) (sym (same_def w k sound placed.known)) (none_numbered takes unnumbered w k sound placed.known can_block.1)) in
      let base : base_point k ≡ None = cond-false (list_any (λ member. is_base_aggregate member.kind) k.at_source.def.members) _ _ plain in
      ap (λ (q : Option ℕ). if upto == k.source.captured then q else None) base ∙ either (upto == k.source.captured)
    where
      none : Option ℕ
      none = None

      either : (b : Bool) → (if b then none else none) ≡ none
      either true = refl
      either false = refl

  -- the world after the block
  abbrev after : World
  after = after_action w k (blocks upto)

  -- it is sound
  sound_after : IsSound after
  sound_after = actions_sound w k (blocks upto) sound among can_block.0

  module _ (known : ReadOnlyState) (known_is : known ≡ state_in w k) (time : ℕ) (time_is : time ≡ time_from upto k.source) where
    -- the step, from where its targets have come to
    abbrev step : Step
    step = Block known.synchpoint known.time upto time None

    -- its end has this time
    end_is : time ≡ time_at k.source.log upto
    end_is = time_is ∙ end_time k upto can_block.0

    -- it can be made
    pub can : CanStep k step
    can = subst (λ (s : ReadOnlyState). CanStep k (Block s.synchpoint s.time upto time None)) (sym known_is) (record {
      from = refl;
      gaps = members_kept k upto can_block.0;
      units = units_kept k upto can_block.0;
      rises = omega (arith, can_block.0.above);
      captured = can_block.0.captured;
      from_timed = time_is_at (synchpoint k.at_target.trail);
      timed = end_is;
      reads_base = record { read = sym no_base; timed = tt };
    })

    -- it makes the entry of the world
    entry_is : block_entry k upto ≡ block known.synchpoint upto None
    entry_is = ap (block (synchpoint k.at_target.trail) upto) no_base ∙ ap (λ (s : ReadOnlyState). block s.synchpoint upto None) (sym known_is)

    module _ {K : Type 0} (kept : K → Kept) (shows : Option TargetSet → Area → DamageCause → Option Contents → Type 0) (sites : Sites K) (reveals : Reveals w k.source (sees kept sites set.source)) (counts : Counts) (c d : Contents) (holds : Holds w k.target c) (puts : PutsTargets kept takes shows sites set step known counts c d) where
      -- what was put makes the step of the world
      put : PutsStep set.at_target.number (block_state upto (source_time w k.at_target.def upto) (base_of k.at_target.trail) k.at_target.flag (length k.at_target.trail)) (length k.at_target.trail) (trail_entry w k.at_target.def (block known.synchpoint upto None)) c d
      put = subst (λ (t : ℕ). PutsStep set.at_target.number (block_state upto t (base_of k.at_target.trail) k.at_target.flag (length k.at_target.trail)) (length k.at_target.trail) (trail_entry w k.at_target.def (block known.synchpoint upto None)) c d) (end_is ∙ sym (time_is_at upto))
          (step_put takes w k set sound placed read_only step can can_block.1 kept shows sites reveals known known_is counts c d holds puts)

      -- so the target holds what the world after the block calls for
      pub blocked_holds : Holds after (with_entry k.at_target.def (block_entry k upto) k.target) d
      blocked_holds =
          block_holds w k set.at_target.number (block_entry k upto) c d sound among placed.at_target holds
          (subst (λ (e : Entry). Becomes (is_of_step set.at_target.number) (with_step w k e) (with_entry k.at_target.def e k.target) c d) (sym entry_is)
          (block_is_stored w k set.at_target.number known.synchpoint upto None c d sound among placed.at_target (subst (λ (e : Entry). IsSound (with_step w k e)) entry_is sound_after) holds (none_numbered takes unnumbered w k sound placed.known can_block.1) put
          (has_targets takes w k set sound placed read_only step can can_block.1 kept shows sites reveals known known_is counts c d holds puts)))

    -- ---- at the servers

    module _ {K : Type 0} (kept : K → Kept) (shows : Option TargetSet → Area → DamageCause → Option Contents → Type 0) (s0 s1 s2 : Sites K) (stands : Stands (names s0) (held kept s0) w) (reveals : Reveals w k.source (sees kept s1 set.source)) where
      -- once the block is put, they stand for the world after it
      pub has_blocked : HasStepped kept s0 s2 set.target (PutsSomeTargets kept takes shows s1 set step known) → HasBecome kept s0 s2 after
      has_blocked stepped = has_become kept s0 s2 w set.target k.target (with_entry k.at_target.def (block_entry k upto)) (PutsSomeTargets kept takes shows s1 set step known) stands placed.target (λ s. refl) sound_after
          (λ c d holds p. blocked_holds kept shows s1 reveals p.0 c d holds p.1)
          (λ other c i apart holds. (others_hold_step w k (block_entry k upto) other c holds).0) stepped

      -- if the call failed, they may still stand for the world before it, and for the one after it only if a keeper failed
      pub may_have_blocked : (e : Fault) → (held kept s2 ≡ held kept s0) ⊎ ((e ≡ faults.Keeper set.target) × HasStepped kept s0 s2 set.target (PutsSomeTargets kept takes shows s1 set step known)) → HasBecome kept s0 s2 w ⊎ ((s : ℕ) × (e ≡ faults.Keeper s) × HasBecome kept s0 s2 after)
      may_have_blocked e (inl same) = inl (subst (λ (h : List (Option Contents)). Stands (names s0) h w) (sym same) stands)
      may_have_blocked e (inr stepped) = inr (set.target, stepped.0, has_blocked stepped.1)

      -- what is answered is the block's ends and its counts
      pub has_answered : (counts : Counts) → HasStepped kept s0 s2 set.target (PutsTargets kept takes shows s1 set step known counts) → HasBlocked kept s0 s2 w k upto (steps.Block known.synchpoint upto counts.inserts counts.updates counts.deletes)
      has_answered counts stepped =
          let r = revealed_at_place (names s0) (held kept s0) w set.target k.target stands placed.target in
          let d = stepped r.0 r.1 in
          let counted : counts ≡ counts_of (set_changes w k.at_target.def (synchpoint k.at_target.trail) upto) = counts_are takes w k set sound placed read_only step can can_block.1 kept shows s1 reveals known known_is counts r.0 d.0 r.2 d.2 ∙ ap (λ (s : ReadOnlyState). counts_of (set_changes w k.at_target.def s.synchpoint upto)) known_is in (
            has_blocked (λ b is. let e = stepped b is in (e.0, e.1, (counts, e.2))),
            λ i. steps.Block (known_is i).synchpoint upto (counted i).inserts (counted i).updates (counted i).deletes,
          )
