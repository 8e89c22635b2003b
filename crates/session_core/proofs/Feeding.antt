-- What the program keeps of body lines from one line to the next.
use Rattle.std.proofs.Common.{◌≡◌, ◌≤◌, ◌+◌, ℕ, ap, arith, Option, Some, None, is_some, if◌then◌else◌}
use Rattle.line_input.specs.Script.{next_kind, line_number, waiting}
use Rattle.line_input.specs.declared.kind.LineKind.{LineKind}
use Rattle.line_input.specs.declared.script.Script.{Script}
use Rattle.run_commands.specs.feed.Feeds.{IsFeed}
use Rattle.session_core.specs.Bodies.{IfFeed, KeepsBodies, after_long_body}
use Rattle.session_core.specs.declared.bodies.Bodies.{Bodies}
use Rattle.session_core.specs.declared.bodies.Bodies.TheVariants.{Refused, Skipped, Gathered, Fed}

-- a feed that is kept is one
pub is_feed : (number : ℕ) (bodies : Bodies) → KeepsBodies number bodies → IfFeed bodies IsFeed
is_feed number Refused keeps = tt
is_feed number Skipped keeps = tt
is_feed number (Gathered text) keeps = tt
is_feed number (Fed feed) keeps = keeps.0

-- what is kept at a line is kept at a later one
pub keeps_later : (number later : ℕ) (bodies : Bodies) → number ≤ later → KeepsBodies number bodies → KeepsBodies later bodies
keeps_later number later Refused le keeps = tt
keeps_later number later Skipped le keeps = tt
keeps_later number later (Gathered text) le keeps = tt
keeps_later number later (Fed feed) le keeps = (keeps.0, omega (arith, le, keeps.1))

-- the number of a line that was read is a later one
pub later_number : (s t : Script) (kind : LineKind) (number : ℕ) → next_kind s ≡ None → next_kind t ≡ Some kind → line_number s + waiting t ≤ line_number t + waiting s → number ≡ line_number t → line_number s + 1 ≤ number
later_number s t kind number none some le same =
    let old : waiting s ≡ 0 = ap (λ (k : Option LineKind). if is_some k then 1 else 0) none in
    let new : waiting t ≡ 1 = ap (λ (k : Option LineKind). if is_some k then 1 else 0) some in
    omega (arith, old, new, le, same)

-- after a body line over the limit nothing of a feed is kept
pub keeps_long : (number : ℕ) (bodies : Bodies) → KeepsBodies number (after_long_body bodies)
keeps_long number Refused = tt
keeps_long number Skipped = tt
keeps_long number (Gathered text) = tt
keeps_long number (Fed feed) = tt
