-- How a capture of some of the units that aren't captured ends.
use Rattle.std.specs.Prelude.{◌≡◌, ℕ, List, take, Option, Some, None, slice_index_or}
use Rattle.repl_types.specs.declared.area.Area.{Area}
use Rattle.repl_types.specs.declared.status.DamageCause.{DamageCause}
use Rattle.repl_types.specs.declared.fault.Fault.{Fault}
use Rattle.keep_core.specs.Kept.{Kept}
use Rattle.site_store.specs.declared.sites.Sites.{Sites}
use Rattle.site_store.specs.Damage.{Shows, IsNoDamage}
use Rattle.site_store.specs.Views.{names, held}
use Rattle.site_store.specs.Calls.{Bounds, Passes, KeepsServers, Blames}
use Rattle.run_core.specs.Runs.{Event, Went, Stopped}
use Rattle.repl_types.specs.declared.unit.Unit.{Unit}
use Rattle.repl_model.specs.World.{World, server_in}
use Rattle.world_store.specs.Stands.{Stands}
use Rattle.world_commits.specs.captures.Captures.{uncaptured}
use Rattle.capture_core.specs.Capturing.{commits_of, counts_of}
use Rattle.capture_core.specs.Reading.{greatest}
use Rattle.capture_core.specs.Rules.{rules}
use Rattle.capture_core.specs.declared.captured.Captured.{Captured}

-- the most units that are captured, if so many are asked for, or all
abbrev pub most_units : Option ℕ → ℕ
most_units None = greatest
most_units (Some most) = most

-- the first of the units that the server with a number hasn't captured
abbrev pub first_units : ℕ → ℕ → World → List Unit
first_units server most w = take most (uncaptured (server_in w server))

-- the commits of their capture
abbrev pub first_commits : ℕ → ℕ → ℕ → World → List (Event World)
first_commits server most every w = commits_of every (server_in w server).name w (first_units server most w)

-- what a server holds shows damage
abbrev pub HeldDamage : {K : Type 0} → (K → Kept) → Sites K → ℕ → ℕ → Area → DamageCause → Type 0
HeldDamage kept sites server s a cause = (s ≡ server) × Shows rules a cause (slice_index_or (held kept sites) server None)

module _ {K : Type 0} (kept : K → Kept) (old new : Sites K) (server most every : ℕ) where
  -- In a world all its commits happened, and it answers these counts.
  pub record EndsIn (answer : Captured) (w : World) : Type 0 where
    pub went : (t : Option (List ℕ)) → Went (Stands (names old)) (first_commits server most every w) w (held kept new) t t
    pub counts : answer ≡ counts_of (first_units server most w) (server_in w server)

  -- It is so in each world for which the servers stood.
  pub record HasEnded (answer : Captured) : Type 0 where
    pub keeps : KeepsServers kept old new
    pub worlds : (w : World) → Stands (names old) (held kept old) w → EndsIn answer w

  -- In a world the first of its commits happened, and no damage was found.
  pub record StopsIn (e : Fault) (w : World) : Type 0 where
    pub stopped : (t : Option (List ℕ)) → Stopped (Stands (names old)) (first_commits server most every w) w (held kept new) t t
    pub undamaged : IsNoDamage e

  -- It is so in each world for which the servers stood, and somebody is to blame.
  pub record HasFailed (e : Fault) : Type 0 where
    pub bounds : Bounds
    pub passes : Passes kept old new bounds
    pub blames : Blames kept old new (HeldDamage kept new server) e
    pub worlds : (w : World) → Stands (names old) (held kept old) w → StopsIn e w
