-- What is said of an input of which the source may reveal nothing.
use Rattle.std.proofs.Common.{ℕ, List, [], Option, Some, None}
use Rattle.site_store.specs.Words.{Contents}
use Rattle.repl_model.specs.Words.{World}
use Rattle.run_core.specs.Runs.{Event, Stopped}
use Rattle.run_core.specs.laws.Runs.{stopped_before}
use Rattle.session_core.specs.Inputs.{OfInput}

-- what holds of each input holds of this one
pub of_any : (input : Option (List ℕ)) (P : List ℕ → Type 0) → ((bytes : List ℕ) → P bytes) → OfInput input P
of_any None P holds = ([], holds [])
of_any (Some bytes) P holds = holds bytes

-- what follows from something that holds of an input holds of it too
pub of_input_also : (input : Option (List ℕ)) (P Q : List ℕ → Type 0) → ((bytes : List ℕ) → P bytes → Q bytes) → OfInput input P → OfInput input Q
of_input_also None P Q also holds = (holds.0, also holds.0 holds.1)
of_input_also (Some bytes) P Q also holds = also bytes holds

-- a run of which nothing happened yet
pub nothing_read : (Means : List (Option Contents) → World → Type 0) (input : Option (List ℕ)) (events : List ℕ → World → List (Event World)) (w : World) (h : List (Option Contents)) (t : Option (List ℕ)) → Means h w → OfInput input (λ bytes. Stopped Means (events bytes w) w h t t)
nothing_read Means input events w h t at = of_any input (λ bytes. Stopped Means (events bytes w) w h t t) (λ bytes. stopped_before Means w (events bytes w) h t at)
