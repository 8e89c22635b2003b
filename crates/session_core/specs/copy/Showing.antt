-- What is known of the events of a feed, for what is shown after it.
use Rattle.std.specs.Prelude.{◌≡◌, ℕ, Bool, if◌then◌else◌, List, []}
use Rattle.repl_model.specs.World.{World}
use Rattle.run_core.specs.Runs.{Event, is_refused, lines_of}
use Rattle.session_core.specs.copy.unwritten.Unwritten.{refusals_in}

-- these lines, if they are of a refusal
abbrev pub lines_if : Bool → List ℕ → List ℕ
lines_if refused lines = if refused then lines else []

-- Of the events of a feed it is known whether something was refused, and the lines of that.
pub record KeepsRefusals (fed : List (Event World)) (lines : List ℕ) (any : Bool) : Type 0 where
  pub refused : any ≡ is_refused fed
  pub written : lines_if any lines ≡ lines_of (refusals_in fed)
