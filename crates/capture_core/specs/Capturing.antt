-- What a capture does in a world, and what it leaves of the servers.
use Rattle.std.specs.Prelude.{◌≡◌, ◌≢◌, ℕ, ◌%◌, ◌==◌, ◌||◌, min, List, map, take, length, Option, None, slice_index_or}
use Rattle.std.specs.List.{filter, range_with_len}
use Rattle.repl_types.specs.declared.fault.Fault.{Fault}
use Rattle.keep_core.specs.Kept.{Kept}
use Rattle.site_store.specs.declared.sites.Sites.{Sites}
use Rattle.site_store.specs.Damage.{IsNoDamage}
use Rattle.site_store.specs.Views.{names, held}
use Rattle.run_core.specs.Runs.{Event, commits, Went, Stopped}
use Rattle.repl_types.specs.declared.unit.Unit.{Unit}
use Rattle.repl_model.specs.World.{Server, World, server_in}
use Rattle.world_store.specs.Stands.{Stands}
use Rattle.world_commits.specs.captures.Captures.{with_units, captured, taken_units, all_rows_captured}
use Rattle.capture_core.specs.Reading.{greatest}
use Rattle.capture_core.specs.declared.captured.Captured.{Captured}

-- ---- what happens

-- After how many of so many units a capture commits: after each `every` of them, and after the last one.
abbrev pub batch_ends : ℕ → ℕ → List ℕ
batch_ends every count = filter (λ k. (k % every == 0) || (k == count)) (range_with_len 1 count)

-- the commits of a capture of these units at the server of a name
abbrev pub commits_of : ℕ → List ℕ → World → List Unit → List (Event World)
commits_of every name w us = map (λ k. commits (captured name (take k us) w)) (batch_ends every (length us))

-- those of a capture of these units, or of all, at the server with a number
abbrev pub capture_events : ℕ → Option ℕ → ℕ → World → List (Event World)
capture_events server units every w = let at = server_in w server in commits_of every at.name w (taken_units units at)

-- what a capture of these units at a server answers
abbrev pub counts_of : List Unit → Server → Captured
counts_of us at = record { upto = (with_units us at).captured; units = min (length us) greatest; rows = min (all_rows_captured us at) greatest }

-- and one of so many units, or of all, at the server with a number
abbrev pub captured_counts : ℕ → Option ℕ → World → Captured
captured_counts server units w = let at = server_in w server in counts_of (taken_units units at) at

-- ---- what is left of the servers

module _ {K : Type 0} (kept : K → Kept) (old new : Sites K) where
  -- each server but this one holds what it held
  abbrev pub HoldsElsewhere : ℕ → Type 0
  HoldsElsewhere server = (q : ℕ) → q ≢ server → slice_index_or (held kept new) q None ≡ slice_index_or (held kept old) q None

  -- All its commits happened, and it answers these counts.
  pub record HasCapturedAll (server : ℕ) (units : Option ℕ) (every : ℕ) (w : World) (answer : Captured) : Type 0 where
    pub went : (t : Option (List ℕ)) → Went (Stands (names old)) (capture_events server units every w) w (held kept new) t t
    pub counts : answer ≡ captured_counts server units w

  -- The first of them happened, and no damage was found.
  pub record HasStopped (server : ℕ) (units : Option ℕ) (every : ℕ) (w : World) (e : Fault) : Type 0 where
    pub stopped : (t : Option (List ℕ)) → Stopped (Stands (names old)) (capture_events server units every w) w (held kept new) t t
    pub undamaged : IsNoDamage e
