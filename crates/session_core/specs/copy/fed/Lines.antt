-- What is done at what is read of an input: a line within the limit, one over it, or the end.
use Rattle.std.specs.Prelude.{◌≡◌, ◌≤◌, ℕ, ◌+◌, Bool, true, false, List, [], length, Option, Some, None, is_none}
use Rattle.std.specs.Option.{IfSome}
use Rattle.keep_core.specs.Kept.{Kept}
use Rattle.line_input.specs.declared.input.Next.{Next}
use Rattle.line_input.specs.declared.input.Next.TheVariants.{End, Line, LongLine}
use Rattle.repl_types.specs.declared.refusal.Refusal.TheVariants as refusals
use Rattle.repl_model.specs.World.{World}
use Rattle.run_core.specs.Runs.{Event}
use Rattle.site_store.specs.Views.{names, held}
use Rattle.site_store.specs.declared.sites.Sites.{Sites}
use Rattle.world_store.specs.Stands.{Stands}
use Rattle.run_commands.specs.feed.Feeds.{IsFeed}
use Rattle.run_commands.specs.feed.FeedEvents.{refused_events, feed_end_events}
use Rattle.run_commands.specs.declared.feed.feed.Feed.{Feed}
use Rattle.session_core.specs.FedLines.{short_line_events, short_line_after}

-- it is the end
abbrev pub is_end : Next → Bool
is_end End = true
is_end Line = false
is_end LongLine = false

-- ---- what was read

-- what is done at it, with the bytes that are kept of a line
abbrev pub read_events : Feed → ℕ → Next → List ℕ → World → List (Event World)
read_events feed number End line w = []
read_events feed number Line line w = short_line_events feed number line w
read_events feed number LongLine line w = refused_events feed (refusals.LineTooLong number) w

-- the feed after it
abbrev pub read_after : Feed → ℕ → Next → List ℕ → World → Option Feed
read_after feed number End line w = Some feed
read_after feed number Line line w = short_line_after feed number line w
read_after feed number LongLine line w = None

-- ---- the same, if something may have been refused before

-- what is done at what was read: nothing after a refusal
abbrev pub next_events : Option Feed → ℕ → Next → List ℕ → World → List (Event World)
next_events None number next line w = []
next_events (Some feed) number next line w = read_events feed number next line w

-- the feed after it
abbrev pub next_after : Option Feed → ℕ → Next → List ℕ → World → Option Feed
next_after None number next line w = None
next_after (Some feed) number next line w = read_after feed number next line w

-- what is done at the end of an input
abbrev pub end_events : Option Feed → World → List (Event World)
end_events None w = []
end_events (Some feed) w = feed_end_events feed w

-- ---- an answer

-- whether something was refused at a line, which nothing is after an earlier refusal
abbrev pub refuses_now : Option Feed → Option Feed → Bool
refuses_now None after = false
refuses_now (Some feed) after = is_none after

-- This is the feed after a line, None if something was refused, and it has read no more records than there were lines.
pub record FeedsOn {K : Type 0} (kept : K → Kept) (old : Sites K) (after : World → Option Feed) (number : ℕ) (feed : Option Feed) : Type 0 where
  pub after_it : (w : World) → Stands (names old) (held kept old) w → feed ≡ after w
  pub fed : IfSome feed (λ f. IsFeed f × (f.fed + length f.records ≤ number))
