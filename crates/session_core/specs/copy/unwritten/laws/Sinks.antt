-- Laws of a sink that keeps the lines of what happened: proofs, and nothing to believe.
use Rattle.std.proofs.Common.{◌≡◌, ℕ, List, [], Option, Some}
use Rattle.std.proofs.lemmas.Option.{same_Some}
use Rattle.site_store.specs.Words.{Contents}
use Rattle.run_core.specs.Runs.{Event, lines_of, Went}

-- a sink that had no bytes has the lines of what happened
pub kept_lines : {W : Type 0} (Means : List (Option Contents) → W → Type 0) (events : List (Event W)) (w : W) (h : List (Option Contents)) (bytes : List ℕ) → Went Means events w h (Some []) (Some bytes) → bytes ≡ lines_of events
kept_lines Means events w h bytes went = same_Some bytes (lines_of events) went.bytes
