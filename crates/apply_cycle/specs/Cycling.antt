-- The steps of the set of a name, one after another, until there is nothing to do.
use Rattle.std.specs.Prelude.{◌≡◌, ◌⊎◌, ℕ, ◌+◌, Bool, List, [], ◌∷◌, ◌++◌, length, Option, Some, None, IsTrue, slice_get}
use Rattle.repl_types.specs.declared.area.Area.{Area}
use Rattle.repl_types.specs.declared.area.Area.TheVariants as areas
use Rattle.repl_types.specs.declared.record.SetId.{SetId}
use Rattle.repl_types.specs.declared.refusal.Refusal.{Refusal}
use Rattle.repl_types.specs.declared.refusal.Refusal.TheVariants as refusals
use Rattle.repl_types.specs.declared.status.DamageCause.{DamageCause}
use Rattle.repl_types.specs.declared.status.DamageCause.TheVariants as causes
use Rattle.repl_types.specs.declared.fault.Fault.{Fault}
use Rattle.repl_types.specs.declared.fault.Fault.TheVariants as faults
use Rattle.repl_types.specs.declared.fault.Stepped.{Stepped}
use Rattle.repl_types.specs.declared.fault.Stepped.TheVariants as steps
use Rattle.keep_core.specs.Kept.{Kept}
use Rattle.repl_definitions.specs.declared.member.TargetKind.{TargetKind}
use Rattle.repl_model.specs.AfterActions.{after_action}
use Rattle.repl_model.specs.NextActions.{idles, next_action}
use Rattle.repl_model.specs.Rules.{is_replica_set}
use Rattle.repl_model.specs.World.{World, KnownSet, known_set}
use Rattle.site_store.specs.Calls.{Blames}
use Rattle.site_store.specs.Damage.{IsNoDamage}
use Rattle.site_store.specs.Views.{names, held}
use Rattle.site_store.specs.declared.sites.Sites.{Sites}
use Rattle.world_store.specs.Stands.{Stands}
use Rattle.world_commits.specs.actions.Resting.{commits_world}
use Rattle.set_places.specs.Places.{IsPlaced, IsPlacedAs, IsReadOnly}
use Rattle.set_places.specs.Steps.{HasBecome}
use Rattle.set_places.specs.declared.placed_set.PlacedSet.{PlacedSet}
use Rattle.target_steps.specs.Steps.{TakesEach}
use Rattle.apply_cycle.specs.Stepping.{answer_of, IsRefused}

-- ---- in a world

-- The set of a name makes its next action in a world: this is answered of it, and this world comes of it.
pub record MakesStep (id : SetId) (w v : World) (stepped : Stepped) : Type 0 where
  pub k : KnownSet
  pub known : known_set w id ≡ Some k
  pub commits : IsTrue (commits_world (next_action k))
  pub after : v ≡ after_action w k (next_action k)
  pub source : ℕ
  pub at_source : slice_get w source ≡ Some k.source
  pub answer : stepped ≡ answer_of w k source (next_action k)

-- it makes several, one after another, and this world comes of all of them
abbrev pub MakesSteps : SetId → World → World → List Stepped → Type 0
MakesSteps id w v [] = v ≡ w
MakesSteps id w v (stepped ∷ answers) = (u : World) × MakesStep id w u stepped × MakesSteps id u v answers

-- it has nothing to do
abbrev pub Rests : SetId → World → Type 0
Rests id w = (k : KnownSet) × (known_set w id ≡ Some k) × (next_action k ≡ idles)

-- Why no step is made: no read-only set has the name, or the next step of the set is refused.
abbrev pub IsRefusedStep : SetId → World → Refusal → Type 0
IsRefusedStep id w refusal = ((refusal ≡ refusals.NoSuchSet id.qual (Some id.name)) × ((k : KnownSet) → known_set w id ≡ Some k → IsTrue (is_replica_set k.at_target.def))) ⊎ ((k : KnownSet) × (known_set w id ≡ Some k) × IsRefused k (next_action k) refusal)

-- ---- at servers

-- what follows for each world that the servers stand for, if each member of the set of a name is of a kind that is taken
abbrev pub ForCycle : {K : Type 0} → (K → Kept) → (TargetKind → Bool) → Sites K → SetId → (World → Type 0) → Type 0
ForCycle kept takes sites id P = (w : World) → Stands (names sites) (held kept sites) w → ((k : KnownSet) → known_set w id ≡ Some k → TakesEach takes k.at_target.def) → P w

-- in each world that the servers stand for, a set that was found makes at most so many steps, by its source
abbrev pub MakesAtMost : {K : Type 0} → (K → Kept) → Sites K → PlacedSet → ℕ → Type 0
MakesAtMost kept sites set most = (w : World) (k : KnownSet) → Stands (names sites) (held kept sites) w → IsPlacedAs w k set → most ≡ k.source.captured + 5

-- there the set of a name is a read-only set that makes at most so many
abbrev pub MayMake : {K : Type 0} → (K → Kept) → Sites K → SetId → ℕ → Type 0
MayMake kept sites id most = (w : World) → Stands (names sites) (held kept sites) w → (k : KnownSet) × (known_set w id ≡ Some k) × IsReadOnly k × (most ≡ k.source.captured + 5)

module _ {K : Type 0} (kept : K → Kept) (old new : Sites K) where
  -- this is what one step came to: there was nothing to do, or it was made
  abbrev pub HasStepped : SetId → World → Stepped → Type 0
  HasStepped id w steps.Idle = HasBecome kept old new w × Rests id w
  HasStepped id w stepped = (v : World) × MakesStep id w v stepped × HasBecome kept old new v

  -- A step failed. If it was refused, nothing changed; and else it may have been made, but no damage was found.
  abbrev pub HasBroken : SetId → World → Fault → Type 0
  HasBroken id w (faults.Refused refusal) = HasBecome kept old new w × IsRefusedStep id w refusal
  HasBroken id w e = (HasBecome kept old new w ⊎ ((v : World) × (stepped : Stepped) × MakesStep id w v stepped × HasBecome kept old new v)) × IsNoDamage e

  -- the steps were made that were answered, and there is nothing to do any more
  abbrev pub HasRested : SetId → List Stepped → World → Type 0
  HasRested id answers w = (v : World) × MakesSteps id w v answers × HasBecome kept old new v × Rests id v

  -- the steps were made that were answered, and the one after them failed
  abbrev pub HasBrokenAfter : SetId → List Stepped → Fault → World → Type 0
  HasBrokenAfter id answers e w = (v : World) × MakesSteps id w v answers × HasBroken id v e

  -- Somebody is to blame for a fault, and damage is of this kind; a refusal blames nobody.
  abbrev pub IsCaused : (ℕ → Area → DamageCause → Type 0) → Fault → Type 0
  IsCaused damage (faults.Refused refusal) = Unit {0}
  IsCaused damage e = Blames kept old new damage e

-- that a set doesn't come to rest is said of its source, in the area that says how far this is captured, with how many steps
-- were made
abbrev pub TellsNoRest : (ℕ → Type 0) → List Stepped → List Stepped → ℕ → Area → DamageCause → Type 0
TellsNoRest is_source before now s a (causes.NoRest made) = is_source s × (a ≡ areas.Capture) × (length now ≡ length before + made)
TellsNoRest is_source before now s a cause = Unit {0}

-- a server is the source of a set that is placed there
abbrev pub IsSource : {K : Type 0} → (K → Kept) → Sites K → ℕ → Type 0
IsSource kept sites s = (set : PlacedSet) × IsPlaced kept sites set × (s ≡ set.source)

-- what was made, if it wasn't nothing
abbrev pub made_of : Stepped → Option Stepped
made_of steps.Idle = None
made_of stepped = Some stepped

-- such answers, and no others, were added to a list
abbrev pub Adds : List Stepped → List Stepped → (List Stepped → Type 0) → Type 0
Adds before now P = (answers : List Stepped) × (now ≡ before ++ answers) × P answers
