-- How far a run came, whatever its status.
use Rattle.std.proofs.Common.{◌≡◌, ℕ, List, [], Bool, true, false, refl, sym, Option, Some, None, IsTrue, append-nil}
use Rattle.site_store.specs.Words.{Contents}
use Rattle.repl_model.specs.Words.{World, Status}
use Rattle.run_core.specs.Runs.{Event, last_world, Stopped}
use Rattle.session_core.specs.Inputs.{OfInput}
use Rattle.session_core.specs.Session.{is_done, Ran}
use Rattle.session_tests.specs.TwoRuns.{HasBegun, GoesOnFrom}

-- something that follows from what holds of an input
of_input_also : {P Q : List ℕ → Type 0} (input : Option (List ℕ)) → ((bytes : List ℕ) → P bytes → Q bytes) → OfInput input P → OfInput input Q
of_input_also None also p = (p.0, also p.0 p.1)
of_input_also (Some bytes) also p = also bytes p

-- the first events of a run happened, whether it came to its end or stopped
pub begun : (Means : List (Option Contents) → World → Type 0) (events : List ℕ → List (Event World)) (w : World) (h : List (Option Contents)) (input t u : Option (List ℕ)) (status : Status)
    → (IsTrue (is_done status) → OfInput input (λ bytes. Ran Means (events bytes) w h t u status))
    → (is_done status ≡ false → OfInput input (λ bytes. Stopped Means (events bytes) w h t u))
    → OfInput input (λ bytes. HasBegun Means (events bytes) w h)
begun Means events w h input t u status done stopped = pick (is_done status) refl
  where
    pick : (b : Bool) → is_done status ≡ b → OfInput input (λ bytes. HasBegun Means (events bytes) w h)
    pick true is = of_input_also input (λ bytes ran. record { done = events bytes; rest = []; split = sym (append-nil (events bytes)); stands = ran.went.stands }) (done is)
    pick false is = of_input_also input (λ bytes part. record { done = part.done; rest = part.rest; split = part.split; stands = part.stands }) (stopped is)

-- so it is with two runs
pub both_begun : (Means : List (Option Contents) → World → Type 0) (events more : List ℕ → World → List (Event World)) (w : World) (h1 h2 : List (Option Contents)) (first second : Option (List ℕ))
    → OfInput first (λ bytes. HasBegun Means (events bytes w) w h1)
    → ((v : World) → Means h1 v → OfInput second (λ bytes. HasBegun Means (more bytes v) v h2))
    → OfInput first (λ bytes. OfInput second (λ later. GoesOnFrom Means (events bytes w) (more later) w h2))
both_begun Means events more w h1 h2 first second one two = of_input_also first (λ bytes began.
    of_input_also second (λ later on. record { done = began.done; rest = began.rest; split = began.split; then = on }) (two (last_world w began.done) began.stands)) one
