-- A step of a set: its next action, whichever it is.
use Rattle.std.specs.Prelude.{◌≡◌, ◌⊎◌, ℕ, ◌<◌, Option}
use Rattle.repl_types.specs.declared.area.Area.{Area}
use Rattle.repl_types.specs.declared.status.DamageCause.{DamageCause}
use Rattle.repl_types.specs.declared.refusal.Refusal.{Refusal}
use Rattle.repl_types.specs.declared.refusal.Refusal.TheVariants as refusals
use Rattle.repl_types.specs.declared.fault.Fault.{Fault}
use Rattle.repl_types.specs.declared.fault.Fault.TheVariants as faults
use Rattle.repl_types.specs.declared.fault.Stepped.{Stepped}
use Rattle.repl_types.specs.declared.fault.Stepped.TheVariants as steps
use Rattle.keep_core.specs.Contents.{Contents}
use Rattle.keep_core.specs.Kept.{Kept}
use Rattle.repl_definitions.specs.declared.set.TargetSet.{TargetSet}
use Rattle.repl_model.specs.AfterActions.{base_point, after_action}
use Rattle.repl_model.specs.NextActions.{Action, signals, refreshes, blocks, reports, idles, refuses}
use Rattle.repl_model.specs.SoundLogs.{log_limit}
use Rattle.repl_model.specs.Trails.{synchpoint}
use Rattle.repl_model.specs.Units.{last_commit}
use Rattle.repl_model.specs.World.{World, KnownSet}
use Rattle.world_store.specs.TargetRows.{set_rows_refreshed, set_changes, count_op, is_insert, is_update, is_delete}
use Rattle.site_store.specs.declared.sites.Sites.{Sites}
use Rattle.site_store.specs.Views.{held}
use Rattle.set_places.specs.declared.placed_set.PlacedSet.{PlacedSet}
use Rattle.set_places.specs.Reading.{ReadsOnly}
use Rattle.set_places.specs.Steps.{HasBecome, MayHaveBecome, BlamesUnchanged}
use Rattle.site_store.specs.Damage.{Damages}
use Rattle.subs_sets.specs.Rules as states
use Rattle.subs_sets.specs.Rules.{state_rules}
use Rattle.full_refresh.specs.Signals as signalling
use Rattle.world_commits.specs.actions.StaysSound.{length_signalled}
use Rattle.full_refresh.specs.Refreshes as refreshing
use Rattle.prune_control.specs.Noting as noting
use Rattle.apply_cycle.specs.Blocks as blocking
use Rattle.apply_cycle.specs.Blocks.{is_read_in_block, ReadsAnswered}

-- what is answered of an action of a set whose source is the server with a number
abbrev pub answer_of : World → KnownSet → ℕ → Action → Stepped
answer_of w k source signals = steps.Signal source (length_signalled k)
answer_of w k source refreshes = steps.Refresh (last_commit k.source.log) (set_rows_refreshed w k.at_target.def (last_commit k.source.log) (base_point k))
answer_of w k source (blocks upto) = let changes = set_changes w k.at_target.def (synchpoint k.at_target.trail) upto in steps.Block (synchpoint k.at_target.trail) upto (count_op is_insert changes) (count_op is_update changes) (count_op is_delete changes)
answer_of w k source reports = steps.Report (synchpoint k.at_target.trail)
answer_of w k source idles = steps.Idle
answer_of w k source (refuses place) = steps.Idle

-- this was answered of an action; a refusal isn't answered so
abbrev pub IsAnswer : World → KnownSet → ℕ → Action → Stepped → Type 0
IsAnswer w k source (refuses place) stepped = ⊥
IsAnswer w k source a stepped = stepped ≡ answer_of w k source a

-- why an action is refused: the log of the source has no room for the signal, or a refresh is called for and forbidden
abbrev pub IsRefused : KnownSet → Action → Refusal → Type 0
IsRefused k a (refusals.LogFull name) = (a ≡ signals) × (log_limit < length_signalled k) × (name ≡ k.source.name)
IsRefused k a (refusals.RefreshDisabled place) = a ≡ refuses place
IsRefused k a other = ⊥

-- what was answered isn't that there was nothing to do
abbrev pub HasActed : Stepped → Type 0
HasActed steps.Idle = ⊥
HasActed other = Unit {0}

module _ {K : Type 0} (kept : K → Kept) (old new : Sites K) where
  -- a set made an action, and this is what was answered
  abbrev pub HasMade : World → KnownSet → Action → ℕ → Stepped → Type 0
  HasMade w k a source stepped = HasBecome kept old new (after_action w k a) × IsAnswer w k source a stepped

  -- The action failed. If it was refused, nothing changed; and else it may have been made, if its commit failed.
  abbrev pub HasFailed : World → KnownSet → Action → Fault → Type 0
  HasFailed w k a (faults.Refused refusal) = HasBecome kept old new w × IsRefused k a refusal
  HasFailed w k a e = MayHaveBecome kept old new w (after_action w k a) e

  -- a block reads no log, no source and nothing spilled, and change rows once each, and so many times more at most
  abbrev pub ReadsInStep : ℕ → Stepped → Type 0
  ReadsInStep more (steps.Block from to inserts updates deletes) = ReadsOnly is_read_in_block kept old new × ReadsAnswered more kept old new (steps.Block from to inserts updates deletes)
  ReadsInStep more other = Unit {0}

  -- if the action is a block, no log, no source and nothing spilled is read
  abbrev pub ReadsIfBlock : Action → Type 0
  ReadsIfBlock (blocks upto) = ReadsOnly is_read_in_block kept old new
  ReadsIfBlock other = Unit {0}

  -- Somebody is to blame for a fault. Each server holds what it held, but one whose keeper failed may hold something else. A
  -- refusal blames nobody, and leaves what each server holds.
  abbrev pub IsBlamed : (ℕ → Area → DamageCause → Type 0) → Fault → Type 0
  IsBlamed damage (faults.Refused refusal) = held kept new ≡ held kept old
  IsBlamed damage e = BlamesUnchanged kept old new damage e

-- what the target of a set was seen to have of the set's state, or the source of its mark, shows damage
abbrev pub ShowsReportDamage : {K : Type 0} → (K → Kept) → Sites K → PlacedSet → ℕ → Area → DamageCause → Type 0
ShowsReportDamage kept sites set s a cause = Damages (λ q. q ≡ set.target) state_rules kept sites s a cause ⊎ noting.ShowsDamage kept sites set.source s a cause

-- what one of a set's servers was seen to have shows damage, by the rules of what the set does next or of one of its actions
abbrev pub ShowsDamage : {K : Type 0} → (K → Kept) → (Option TargetSet → Area → DamageCause → Option Contents → Type 0) → Sites K → PlacedSet → ℕ → Area → DamageCause → Type 0
ShowsDamage kept shows sites set s a cause = states.ShowsDamage kept sites s a cause ⊎ (signalling.ShowsDamage kept sites set s a cause ⊎ (refreshing.ShowsDamage kept shows sites set s a cause ⊎ (blocking.ShowsDamage kept shows sites set s a cause ⊎ ShowsReportDamage kept sites set s a cause)))
