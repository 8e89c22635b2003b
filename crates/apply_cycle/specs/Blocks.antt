-- The block of a set.
use Rattle.std.specs.Prelude.{◌≡◌, ◌⊎◌, ℕ, Bool, ◌||◌, Option}
use Rattle.repl_types.specs.declared.area.Area.{Area}
use Rattle.repl_types.specs.declared.status.DamageCause.{DamageCause}
use Rattle.repl_types.specs.declared.fault.Stepped.{Stepped}
use Rattle.repl_types.specs.declared.fault.Stepped.TheVariants as steps
use Rattle.keep_core.specs.Contents.{Contents}
use Rattle.keep_core.specs.Kept.{Kept}
use Rattle.repl_definitions.specs.declared.member.TargetKind.{TargetKind}
use Rattle.repl_definitions.specs.declared.set.TargetSet.{TargetSet}
use Rattle.repl_model.specs.AfterActions.{after_action}
use Rattle.repl_model.specs.NextActions.{blocks}
use Rattle.world_commits.specs.actions.StaysSound.{MayBlock}
use Rattle.repl_model.specs.Trails.{synchpoint}
use Rattle.repl_model.specs.World.{World, KnownSet}
use Rattle.world_store.specs.TargetRows.{set_changes, count_op, is_insert, is_update, is_delete}
use Rattle.site_store.specs.declared.sites.Sites.{Sites}
use Rattle.site_store.specs.Damage.{Damages}
use Rattle.subs_sets.specs.Rules.{is_read, source_rules, state_rules}
use Rattle.set_places.specs.declared.placed_set.PlacedSet.{PlacedSet}
use Rattle.set_places.specs.Steps.{HasBecome}
use Rattle.target_steps.specs.Taking.{is_of_block, ReadsCounted, ShowsAtEnds}
use Rattle.target_steps.specs.Steps.{TakesEach}

-- a block of the set up to a point may be made, and each member is of a kind that is taken through it
abbrev pub CanBlock : (TargetKind → Bool) → KnownSet → ℕ → Type 0
CanBlock takes k upto = MayBlock k upto × TakesEach takes k.at_source.def

-- the areas that are read: those that tell how far the set is and what is captured, and those of its members
abbrev pub is_read_in_block : Area → Bool
is_read_in_block a = is_read a || is_of_block a

-- the block was made, and this is what it answers: its ends, and the change rows between them by their operations
abbrev pub HasBlocked : {K : Type 0} → (K → Kept) → Sites K → Sites K → World → KnownSet → ℕ → Stepped → Type 0
HasBlocked kept old new w k upto stepped = let changes = set_changes w k.at_target.def (synchpoint k.at_target.trail) upto in
    HasBecome kept old new (after_action w k (blocks upto))
    × (stepped ≡ steps.Block (synchpoint k.at_target.trail) upto (count_op is_insert changes) (count_op is_update changes) (count_op is_delete changes))

-- What was answered is a block. At each server change rows were read as often as it answers that there were some, and so many
-- times more at most, unless numbers have run out.
abbrev pub ReadsAnswered : {K : Type 0} → ℕ → (K → Kept) → Sites K → Sites K → Stepped → Type 0
ReadsAnswered more kept old new (steps.Block from to inserts updates deletes) = ReadsCounted more kept old new (record { rows = 0; inserts = inserts; updates = updates; deletes = deletes })
ReadsAnswered more kept old new other = ⊥

-- ---- damage

-- what the source of a set was seen to have of what is captured, the target of the set's state, or either of what is taken,
-- shows damage
abbrev pub ShowsDamage : {K : Type 0} → (K → Kept) → (Option TargetSet → Area → DamageCause → Option Contents → Type 0) → Sites K → PlacedSet → ℕ → Area → DamageCause → Type 0
ShowsDamage kept shows sites set s a cause = (Damages (λ q. q ≡ set.source) source_rules kept sites s a cause ⊎ Damages (λ q. q ≡ set.target) state_rules kept sites s a cause) ⊎ ShowsAtEnds kept shows sites set s a cause
