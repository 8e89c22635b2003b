-- How far a run has come that feeds the lines of an input.
use Rattle.std.specs.Prelude.{◌≡◌, ℕ, List, ◌++◌, Option, Some, None, is_none}
use Rattle.std.specs.Str.Lines.{lines}
use Rattle.keep_core.specs.Contents.{Contents}
use Rattle.repl_model.specs.World.{World}
use Rattle.run_core.specs.Runs.{Going, is_refused}
use Rattle.run_commands.specs.declared.feed.feed.Feed.{Feed}
use Rattle.session_core.specs.copy.fed.FedInput.{lines_events, input_events}

-- Some lines of an input were fed, and these are left, the first with this number: what happened is what a run does at them,
-- and there is no feed any more if something was refused.
pub record IsFeeding (Means : List (Option Contents) → World → Type 0) (server input : List ℕ) (w : World) (feed : Option Feed) (number : ℕ) (left : List (List ℕ)) (held : List (Option Contents)) (before now : Option (List ℕ)) : Type 0 where
  pub going : Going Means (input_events server input w) w (lines_events feed number left) held before now
  pub refused : is_none feed ≡ is_refused going.done

-- The same of the bytes that are left, if the source reveals them. If it doesn't, there are some bytes of which the lines
-- are the ones that were fed: whatever follows these bytes, its lines are left.
abbrev pub GoesOn : (List (Option Contents) → World → Type 0) → List ℕ → Option (List ℕ) → World → Option Feed → ℕ → Option (List ℕ) → List (Option Contents) → Option (List ℕ) → Option (List ℕ) → Type 0
GoesOn Means server None w feed number left held before now = (bytes : List ℕ) × ((rest : List ℕ) → IsFeeding Means server (bytes ++ rest) w feed number (lines rest) held before now)
GoesOn Means server (Some input) w feed number None held before now = ⊥
GoesOn Means server (Some input) w feed number (Some left) held before now = IsFeeding Means server input w feed number (lines left) held before now
