-- The lines of an input, and its end, as parts of the run that feeds them.
use Rattle.std.proofs.Common.{◌≡◌, ◌≢◌, ◌∙◌, ◌+◌, ◌||◌, ◌<◌, ◌≤◌, ℕ, List, length, Bool, true, false, refl, sym, ap, subst, arith, Option, Some, None, is_some, is_none, not, IfSome, true≢false}
use Rattle.world_store.specs.Words.{Stands}
use Rattle.site_store.specs.Words.{Contents, Kept, names, held}
use Rattle.site_store.specs.declared.sites.Sites.{Sites}
use Rattle.repl_model.specs.Words.{World}
use Rattle.line_input.specs.Input.{ReadsLine, IsLineText}
use Rattle.line_input.specs.declared.input.Next.{Next}
use Rattle.line_input.specs.declared.input.Next.TheVariants.{End, Line, LongLine}
use Rattle.run_core.specs.Runs.{Went, Stopped, is_refused}
use Rattle.run_commands.specs.parts.Parts.{Happened, StoppedIn}
use Rattle.run_commands.specs.parts.laws.Parts.{happened_since, stopped_since}
use Rattle.run_commands.specs.feed.Feeds.{IsFeed}
use Rattle.run_commands.specs.declared.feed.feed.Feed.{Feed}
use Rattle.session_core.specs.Inputs.{OfInput}
use Rattle.session_core.specs.copy.fed.FedInput.{input_events}
use Rattle.session_core.specs.copy.fed.Feeding.{GoesOn}
use Rattle.session_core.specs.copy.fed.Lines.{is_end, next_events, next_after, end_events, refuses_now, FeedsOn}
use Rattle.session_core.proofs.CopyGoing.{stands_now, stops_here, takes_line, stops_at_line, takes_end, stops_at_end}

-- a feed that has read fewer records than the number of the next line is one
pub is_feed : (number : ℕ) (feed : Option Feed) → IfSome feed (λ f. IsFeed f × (f.fed + length f.records < number)) → IfSome feed IsFeed
is_feed number None fed = tt
is_feed number (Some feed) fed = fed.0

-- one that has read no more records than there were lines has read fewer than the number of the next
pub fed_later : (number : ℕ) (feed : Option Feed) → IfSome feed (λ f. IsFeed f × (f.fed + length f.records ≤ number)) → IfSome feed (λ f. IsFeed f × (f.fed + length f.records < number + 1))
fed_later number None fed = tt
fed_later number (Some feed) fed = (fed.0, omega (arith, fed.1))

-- one that has read none has read fewer than the number of the first
pub fed_none : (feed : Option Feed) → IfSome feed (λ f. IsFeed f × (f.fed + length f.records ≡ 0)) → IfSome feed (λ f. IsFeed f × (f.fed + length f.records < 1))
fed_none None fed = tt
fed_none (Some feed) fed = (fed.0, omega (arith, fed.1))

-- what is the end, and what isn't
pub is_ended : (next : Next) → is_end next ≡ true → next ≡ End
is_ended End is = refl
is_ended Line is = absurd cc
is_ended LongLine is = absurd cc

pub is_more : (next : Next) → is_end next ≡ false → next ≢ End
is_more next is ended = true≢false (sym (ap is_end ended) ∙ is)

-- a feed that isn't there is none
pub none_is : {T : Type 0} (o : Option T) (b : Bool) → is_some o ≡ not b → b ≡ is_none o
none_is None true is = refl
none_is None false is = absurd cc
none_is (Some x) true is = absurd cc
none_is (Some x) false is = refl

-- what was refused up to a line, and what is refused at it, was refused after it
refused_so_far : (feed : Option Feed) (number : ℕ) (next : Next) (line : List ℕ) (after : Option Feed) (w : World) → after ≡ next_after feed number next line w → (b : Bool) → refuses_now feed after ≡ b → is_none after ≡ (is_none feed || b)
refused_so_far None number next line after w is b now = ap is_none is
refused_so_far (Some feed) number next line after w is b now = now

-- The servers are those at the beginning of the run, before a line and after it, and the output likewise.
module _ {K : Type 0} (kept : K → Kept) (s0 s1 s2 : Sites K) (same : names s1 ≡ names s0) (server : List ℕ) (input t u u2 : Option (List ℕ)) (feed : Option Feed) (number : ℕ) where
  -- for which world servers stand, by their names at the beginning
  abbrev Means : List (Option Contents) → World → Type 0
  Means h w = Stands (names s0) h w

  -- the run goes on with these bytes left
  abbrev Goes : Option (List ℕ) → Type 0
  Goes left = (w : World) → Means (held kept s0) w → GoesOn Means server input w feed number left (held kept s1) t u

  -- the servers stand for a world then
  pub still_stands : (left : Option (List ℕ)) → Goes left → (w : World) → Means (held kept s0) w → (v : World) × Means (held kept s1) v
  still_stands left goes w at = stands_now Means server input left w (held kept s1) t u feed number (goes w at)

  -- the run stopped between two lines
  pub stopped_here : (left : Option (List ℕ)) → Goes left → (w : World) → Means (held kept s0) w → OfInput input (λ bytes. Stopped Means (input_events server bytes w) w (held kept s1) t u)
  stopped_here left goes w at = stops_here Means server input left w (held kept s1) t u feed number (goes w at)

  module _ (before now : Option (List ℕ)) (goes : Goes before) (next : Next) (line : List ℕ) (reads : ReadsLine next line before now) where
    module _ (more : next ≢ End) (text : IsLineText next line) where
      -- after a line the run goes on
      pub line_fed : (after : Option Feed) → Happened kept s1 s2 u u2 (next_events feed number next line) (refuses_now feed after) → FeedsOn kept s1 (next_after feed number next line) number after
          → (w : World) → Means (held kept s0) w → GoesOn Means server input w after (number + 1) now (held kept s2) t u2
      line_fed after happened feeds w at =
          let after_it = subst (λ (n : List (List ℕ)). (v : World) → Stands n (held kept s1) v → after ≡ next_after feed number next line v) same feeds.after_it in
          takes_line Means server w (held kept s1) (held kept s2) t u u2 feed number next line more text input before now after (goes w at) reads after_it
          (λ v stands. let here = happened_since kept s0 s1 s2 same u u2 (next_events feed number next line) (refuses_now feed after) happened v stands in (here.0, refused_so_far feed number next line after v (after_it v stands) (is_refused (next_events feed number next line v)) here.1))

      -- or it stopped at the line
      pub line_stopped : StoppedIn kept s1 s2 u u2 (next_events feed number next line) → (w : World) → Means (held kept s0) w → OfInput input (λ bytes. Stopped Means (input_events server bytes w) w (held kept s2) t u2)
      line_stopped stopped w at =
          stops_at_line Means server w (held kept s1) (held kept s2) t u u2 feed number next line more text input before now (goes w at) reads (stopped_since kept s0 s1 s2 same u u2 (next_events feed number next line) stopped)

    module _ (ended : next ≡ End) where
      -- that was the end
      at_end : ReadsLine End line before now
      at_end = subst (λ (n : Next). ReadsLine n line before now) ended reads

      -- after the end of the feed the whole run happened
      pub end_fed : (any : Bool) → Happened kept s1 s2 u u2 (end_events feed) any
          → (w : World) → Means (held kept s0) w → OfInput input (λ bytes. Went Means (input_events server bytes w) w (held kept s2) t u2 × ((is_none feed || any) ≡ is_refused (input_events server bytes w)))
      end_fed any happened w at =
          takes_end Means server w (held kept s1) (held kept s2) t u u2 feed number line input before now (is_none feed || any) (goes w at) at_end
          (λ v stands. let here = happened_since kept s0 s1 s2 same u u2 (end_events feed) any happened v stands in (here.0, ap (λ (b : Bool). is_none feed || b) here.1))

      -- or it stopped there
      pub end_stopped : StoppedIn kept s1 s2 u u2 (end_events feed) → (w : World) → Means (held kept s0) w → OfInput input (λ bytes. Stopped Means (input_events server bytes w) w (held kept s2) t u2)
      end_stopped stopped w at =
          stops_at_end Means server w (held kept s1) (held kept s2) t u u2 feed number line input before now (goes w at) at_end (stopped_since kept s0 s1 s2 same u u2 (end_events feed) stopped)
