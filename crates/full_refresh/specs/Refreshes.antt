-- The refresh of a set.
use Rattle.std.specs.Prelude.{◌≡◌, ◌⊎◌, ℕ, Bool, Option}
use Rattle.repl_types.specs.declared.area.Area.{Area}
use Rattle.repl_types.specs.declared.status.DamageCause.{DamageCause}
use Rattle.repl_types.specs.declared.fault.Stepped.{Stepped}
use Rattle.repl_types.specs.declared.fault.Stepped.TheVariants as steps
use Rattle.keep_core.specs.Contents.{Contents}
use Rattle.keep_core.specs.Kept.{Kept}
use Rattle.repl_definitions.specs.declared.member.TargetKind.{TargetKind}
use Rattle.repl_definitions.specs.declared.set.TargetSet.{TargetSet}
use Rattle.repl_model.specs.Units.{last_commit}
use Rattle.repl_model.specs.World.{World, KnownSet}
use Rattle.repl_model.specs.NextActions.{refreshes}
use Rattle.world_commits.specs.actions.StaysSound.{MayRefresh}
use Rattle.repl_model.specs.AfterActions.{base_point, after_action}
use Rattle.world_store.specs.TargetRows.{set_rows_refreshed}
use Rattle.site_store.specs.declared.sites.Sites.{Sites}
use Rattle.site_store.specs.Damage.{Damages}
use Rattle.source_log.specs.Rules.{all_rules}
use Rattle.subs_sets.specs.Rules.{state_rules}
use Rattle.set_places.specs.declared.placed_set.PlacedSet.{PlacedSet}
use Rattle.set_places.specs.Steps.{HasBecome}
use Rattle.target_steps.specs.Taking.{ShowsAtEnds}
use Rattle.target_steps.specs.Steps.{TakesEach}

-- a refresh of the set may be made, and each member is of a kind that is taken through it
abbrev pub CanRefresh : (TargetKind → Bool) → KnownSet → Type 0
CanRefresh takes k = MayRefresh k × TakesEach takes k.at_source.def

-- the refresh was made, and this is what it answers
abbrev pub HasRefreshed : {K : Type 0} → (K → Kept) → Sites K → Sites K → World → KnownSet → Stepped → Type 0
HasRefreshed kept old new w k stepped = HasBecome kept old new (after_action w k refreshes)
    × (stepped ≡ steps.Refresh (last_commit k.source.log) (set_rows_refreshed w k.at_target.def (last_commit k.source.log) (base_point k)))

-- what was answered is a refresh
abbrev pub IsRefresh : Stepped → Type 0
IsRefresh (steps.Refresh point rows) = Unit {0}
IsRefresh other = ⊥

-- ---- damage

-- what the source of a set was seen to have of its log, the target of the set's state, or either of what is taken through it,
-- shows damage
abbrev pub ShowsDamage : {K : Type 0} → (K → Kept) → (Option TargetSet → Area → DamageCause → Option Contents → Type 0) → Sites K → PlacedSet → ℕ → Area → DamageCause → Type 0
ShowsDamage kept shows sites set s a cause = (Damages (λ q. q ≡ set.source) all_rules kept sites s a cause ⊎ Damages (λ q. q ≡ set.target) state_rules kept sites s a cause) ⊎ ShowsAtEnds kept shows sites set s a cause
