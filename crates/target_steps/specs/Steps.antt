-- What the step of a set makes of all its targets, of its state and of its trail.
use Rattle.std.specs.Prelude.{◌≡◌, ℕ, ◌-◌, ◌^◌, ◌<◌, Bool, true, false, Option, Some}
use Rattle.std.specs.List.{AllByRecursion}
use Rattle.repl_types.specs.declared.area.Area.{Area}
use Rattle.repl_types.specs.declared.area.Area.TheVariants as areas
use Rattle.repl_types.specs.declared.status.DamageCause.{DamageCause}
use Rattle.repl_types.specs.declared.fault.Counts.{Counts}
use Rattle.keep_core.specs.Contents.{Contents}
use Rattle.keep_core.specs.Kept.{Kept}
use Rattle.repl_definitions.specs.declared.member.TargetKind.{TargetKind}
use Rattle.repl_definitions.specs.declared.set.SetDef.{SetDef}
use Rattle.repl_records.specs.declared.set_state.SetState.{SetState}
use Rattle.repl_records.specs.declared.trail.TrailEntry.{TrailEntry}
use Rattle.repl_records.specs.declared.trail.TrailEntry.TheVariants as entries
use Rattle.repl_definitions.specs.declared.set.TargetSet.{TargetSet}
use Rattle.repl_model.specs.World.{World, KnownSet}
use Rattle.world_store.specs.Stands.{Holds}
use Rattle.world_store.specs.TargetRows.{set_rows_refreshed, set_changes}
use Rattle.stored_commits.specs.actions.ActedServers.{is_of_step}
use Rattle.stored_commits.specs.actions.StoredSteps.{PutsStep, HasTargets, refreshed_state, block_state}
use Rattle.site_store.specs.declared.sites.Sites.{Sites}
use Rattle.site_store.specs.Views.{sees}
use Rattle.subs_sets.specs.declared.states.ReadOnlyState.{ReadOnlyState}
use Rattle.set_places.specs.declared.placed_set.PlacedSet.{PlacedSet}
use Rattle.set_places.specs.Members.{ForSource}
use Rattle.set_places.specs.Places.{IsReadOnly}
use Rattle.target_steps.specs.declared.step.Step.{Step}
use Rattle.target_steps.specs.declared.step.Step.TheVariants.{Refresh, Block}
use Rattle.target_steps.specs.Taking.{CanStep, base_of_step, counts_of, entry_of}

-- ---- members

-- each member of a set is of a kind that is taken
abbrev pub TakesEach : (TargetKind → Bool) → SetDef → Type 0
TakesEach takes def = AllByRecursion (λ member. takes member.kind ≡ true) def.members

-- the table is a target of the set with a number
abbrev pub is_target_of : ℕ → Area → ℕ → Bool
is_target_of number areas.Target n = is_of_step number areas.Target n
is_target_of number a n = false

-- what is counted of all members at a step
abbrev pub all_counted : World → KnownSet → Step → Counts
all_counted w k (Refresh point time) = record { rows = set_rows_refreshed w k.at_target.def point (base_of_step k.at_source.def (Refresh point time)); inserts = 0; updates = 0; deletes = 0 }
all_counted w k (Block low low_time high time base) = counts_of (set_changes w k.at_target.def low high)

module _ {K : Type 0} (kept : K → Kept) (takes : TargetKind → Bool) (sites : Sites K) (set : PlacedSet) (step : Step) where
  -- what follows for a read-only set that can make a step, in each sound world, if each member is of a kind that is taken, the
  -- source is seen to have what the world calls for, and these are the contents of the target
  abbrev pub ForAllTaken : Contents → (World → KnownSet → Type 0) → Type 0
  ForAllTaken c P = ForSource kept sites set (λ w k. IsReadOnly k → CanStep k step → TakesEach takes k.at_source.def → Holds w k.target c → P w k)

  -- All members of a set were taken through a step, with these counts, and no damage is shown that wasn't shown before. All
  -- tables but those of the set's targets are as they were.
  pub record TakesAll (shows : Option TargetSet → Area → DamageCause → Option Contents → Type 0) (counts : Counts) (c d : Contents) : Type 0 where
    pub shown : (a : Area) (cause : DamageCause) → shows (Some set.at_target) a cause (Some d) → shows (Some set.at_target) a cause (Some c)
    pub taken : ForAllTaken c (λ w k. ((a : Area) (n : ℕ) → is_target_of set.at_target.number a n ≡ false → d a n ≡ c a n)
        × HasTargets k set.at_target.number (entry_of k.at_source.def step) d × (counts ≡ all_counted w k step))

  -- what follows in each such world, if the target is seen to have what it calls for
  abbrev pub ForMembers : Type 0 → Type 0
  ForMembers P = (c : Contents) → sees kept sites set.target ≡ Some c → ForAllTaken c (λ w k. P)

-- ---- what is put

-- the state of a set after a step
abbrev pub state_after : Step → ReadOnlyState → SetState
state_after (Refresh point time) known = refreshed_state point time known.entries
state_after (Block low low_time high time base) known = block_state high time known.base known.flag known.entries

-- the entry of a step of a set, with what was counted
abbrev pub entry_after : Step → SetDef → Counts → TrailEntry
entry_after (Refresh point time) def counts = entries.Refresh point counts.rows (base_of_step def (Refresh point time))
entry_after (Block low low_time high time base) def counts = entries.Block low high counts.inserts counts.updates counts.deletes (base_of_step def (Block low low_time high time base))

module _ {K : Type 0} (kept : K → Kept) (takes : TargetKind → Bool) (shows : Option TargetSet → Area → DamageCause → Option Contents → Type 0) (sites : Sites K) (set : PlacedSet) (step : Step) (known : ReadOnlyState) where
  -- all members were taken through a step, and the set's state and the next entry of its trail were put, unless numbers have
  -- run out
  pub record PutsTargets (counts : Counts) (c d : Contents) : Type 0 where
    pub between : Contents
    pub taken : TakesAll kept takes sites set step shows counts c between
    pub puts : known.entries < 2 ^ 64 - 1 → PutsStep set.at_target.number (state_after step known) known.entries (entry_after step set.at_source.def counts) between d
    pub targets : (n : ℕ) → d areas.Target n ≡ between areas.Target n

  -- with some counts
  abbrev pub PutsSomeTargets : Contents → Contents → Type 0
  PutsSomeTargets c d = (counts : Counts) × PutsTargets counts c d
