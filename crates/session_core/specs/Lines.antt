-- Words for the parts of a run of a script.
use Rattle.std.specs.Prelude.{◌≡◌, ℕ, ◌+◌, Bool, List, ◌++◌, Option, Some, None}
use Rattle.std.specs.Str.Lines.{lines}
use Rattle.keep_core.specs.Contents.{Contents}
use Rattle.repl_model.specs.World.{World}
use Rattle.run_core.specs.Runs.{Going, is_refused}
use Rattle.line_input.specs.Lines.{ScriptLine, script_from}
use Rattle.session_core.specs.Talk.{script_events, talk}
use Rattle.session_core.specs.declared.bodies.Bodies.{Bodies}

-- Some lines of a script were taken, and these are left: what happened is what a run does at them, and
-- something was refused if so.
pub record IsGoing (Means : List (Option Contents) → World → Type 0) (input : List ℕ) (w : World) (bodies : Bodies) (left : List (ℕ × ScriptLine)) (held : List (Option Contents)) (before now : Option (List ℕ)) (any : Bool) : Type 0 where
  pub going : Going Means (script_events input w) w (talk bodies left) held before now
  pub refused : any ≡ is_refused going.done

-- The same, if the source reveals its bytes. If it doesn't, there are some bytes of which the lines are the ones that were
-- taken, up to the line with this number: whatever follows these bytes, its lines are left.
abbrev pub GoesOn : (List (Option Contents) → World → Type 0) → Option (List ℕ) → World → Bodies → ℕ → Option (List (ℕ × ScriptLine)) → List (Option Contents) → Option (List ℕ) → Option (List ℕ) → Bool → Type 0
GoesOn Means None w bodies number left held before now any = (bytes : List ℕ) × ((rest : List ℕ) → IsGoing Means (bytes ++ rest) w bodies (script_from (number + 1) (lines rest)) held before now any)
GoesOn Means (Some input) w bodies number None held before now any = ⊥
GoesOn Means (Some input) w bodies number (Some left) held before now any = IsGoing Means input w bodies left held before now any
