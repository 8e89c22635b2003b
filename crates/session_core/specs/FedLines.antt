-- A line of a feed, be it a body line of a script or a line of the input that `copy` feeds.
use Rattle.std.specs.Prelude.{ℕ, Bool, ◌==◌, if◌then◌else◌, List, [], Option, Some}
use Rattle.std.specs.List.{list_all}
use Rattle.log_text.specs.Words.{blank}
use Rattle.repl_model.specs.World.{World}
use Rattle.run_core.specs.Runs.{Event}
use Rattle.run_commands.specs.feed.FeedEvents.{feed_line_events, feed_after}
use Rattle.run_commands.specs.declared.feed.feed.Feed.{Feed}

-- the line consists of blanks, or is empty
abbrev pub is_blank : List ℕ → Bool
is_blank line = list_all (λ b. b == blank) line

-- what is done at a line within the limit: a blank one is skipped
abbrev pub short_line_events : Feed → ℕ → List ℕ → World → List (Event World)
short_line_events feed number line w = if is_blank line then [] else feed_line_events feed number line w

-- the feed after it, None if something was refused
abbrev pub short_line_after : Feed → ℕ → List ℕ → World → Option Feed
short_line_after feed number line w = if is_blank line then Some feed else feed_after feed number line w
