-- Asking for a refresh of a read-only set.
use Rattle.std.specs.Prelude.{◌≡◌, ℕ, true, IsTrue}
use Rattle.repl_types.specs.declared.area.Area.{Area}
use Rattle.repl_types.specs.declared.status.DamageCause.{DamageCause}
use Rattle.repl_types.specs.declared.fault.Fault.{Fault}
use Rattle.repl_types.specs.declared.fault.Fault.TheVariants as faults
use Rattle.repl_types.specs.declared.refusal.Refusal.{Refusal}
use Rattle.repl_types.specs.declared.refusal.Refusal.TheVariants as refusals
use Rattle.repl_types.specs.declared.refusal.GapPlace.TheVariants as places
use Rattle.keep_core.specs.Contents.{Contents}
use Rattle.keep_core.specs.Kept.{Kept}
use Rattle.repl_model.specs.Rules.{is_replica_set}
use Rattle.repl_model.specs.World.{World, KnownSet}
use Rattle.repl_model.specs.Sound.{IsSound}
use Rattle.site_store.specs.declared.sites.Sites.{Sites}
use Rattle.site_store.specs.Damage.{Damages}
use Rattle.site_store.specs.Views.{held}
use Rattle.world_store.specs.TargetRows.{state_of}
use Rattle.world_store.specs.Stands.{Holds}
use Rattle.set_places.specs.declared.placed_set.PlacedSet.{PlacedSet}
use Rattle.set_places.specs.Places.{IsPlacedAs}
use Rattle.set_places.specs.Steps.{BlamesUnchanged}
use Rattle.stored_commits.specs.actions.FlaggedServers.{with_state}
use Rattle.subs_sets.specs.Rules.{state_rules}

-- in each sound world in which a set stands as it was found, and whose target holds what the world calls for, the set's
-- state is put with its flag set, and else as it is in the world
abbrev pub PutsFlag : PlacedSet → Contents → Contents → Type 0
PutsFlag set c d = (w : World) (k : KnownSet) → IsSound w → IsPlacedAs w k set → Holds w k.target c → d ≡ with_state set.at_target.number (state_of w (record k.at_target { flag = true })) c

-- why it is refused: the set is a replica set
abbrev pub IsRefused : PlacedSet → Refusal → Type 0
IsRefused set (refusals.RefreshDisabled place) = IsTrue (is_replica_set set.at_target.def) × (place ≡ places.Replica set.at_target.def.id)
IsRefused set other = ⊥

-- what a server was seen to have of the states of sets shows damage
abbrev pub ShowsStateDamage : {K : Type 0} → (K → Kept) → Sites K → ℕ → ℕ → Area → DamageCause → Type 0
ShowsStateDamage kept sites server = Damages (λ s. s ≡ server) state_rules kept sites

-- Somebody is to blame for a fault, and each server holds what it held, but for one whose keeper failed. A refusal blames
-- nobody, and leaves what each server holds.
abbrev pub IsBlamed : {K : Type 0} → (K → Kept) → Sites K → Sites K → PlacedSet → Fault → Type 0
IsBlamed kept old new set (faults.Refused refusal) = IsRefused set refusal × (held kept new ≡ held kept old)
IsBlamed kept old new set e = BlamesUnchanged kept old new (ShowsStateDamage kept old set.target) e
