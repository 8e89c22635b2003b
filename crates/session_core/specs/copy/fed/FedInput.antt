-- What a run does with the lines of an input, each of which is a record that is fed at a server.
use Rattle.std.specs.Prelude.{ℕ, ◌+◌, nat_lt, if◌then◌else◌, List, [], ◌∷◌, length, Option, Some, None}
use Rattle.std.specs.Str.Lines.{lines}
use Rattle.line_input.specs.Limits.{line_limit}
use Rattle.repl_types.specs.declared.refusal.Refusal.TheVariants as refusals
use Rattle.repl_model.specs.World.{World}
use Rattle.run_core.specs.Runs.{Event}
use Rattle.run_commands.specs.parts.Parts.{then_events}
use Rattle.run_commands.specs.feed.FeedEvents.{begin_events, begun, refused_events, feed_end_events}
use Rattle.run_commands.specs.declared.feed.feed.Feed.{Feed}
use Rattle.session_core.specs.FedLines.{short_line_events, short_line_after}

-- what is done at a line with its number: one over the limit is refused, and each other one is a line of the feed
abbrev pub input_line_events : Feed → ℕ → List ℕ → World → List (Event World)
input_line_events feed number line w =
    if nat_lt line_limit (length line) then refused_events feed (refusals.LineTooLong number) w
    else short_line_events feed number line w

-- the feed after it, None if something was refused, and then no further line is taken
abbrev pub input_line_after : Feed → ℕ → List ℕ → World → Option Feed
input_line_after feed number line w =
    if nat_lt line_limit (length line) then None
    else short_line_after feed number line w

-- what is done at some lines, the first with this number, and at their end
abbrev pub lines_events : Option Feed → ℕ → List (List ℕ) → World → List (Event World)
lines_events None number more w = []
lines_events (Some feed) number [] w = feed_end_events feed w
lines_events (Some feed) number (line ∷ more) w = then_events (input_line_events feed number line) (lines_events (input_line_after feed number line w) (number + 1) more) w

-- what is done at the lines of an input, fed at the server of a name
abbrev pub input_events : List ℕ → List ℕ → World → List (Event World)
input_events server input w = then_events (begin_events server) (lines_events (begun server w) 1 (lines input)) w
