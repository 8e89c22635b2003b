-- What a run does with body lines before the next line of a command.
use Rattle.std.specs.Prelude.{ℕ, ◌+◌, ◌<◌, nat_lt, if◌then◌else◌, List, [], ◌++◌, ◌∷◌, length, Option, Some, None, is_some}
use Rattle.std.specs.Option.{option_map_or}
use Rattle.repl_commands.specs.declared.command.Command.{Command}
use Rattle.repl_commands.specs.declared.command.Command.TheVariants as commands
use Rattle.repl_model.specs.World.{World}
use Rattle.script_text.specs.Asked.{Asked, asks, unknown, bad, takes_body}
use Rattle.run_commands.specs.feed.Feeds.{IsFeed}
use Rattle.run_commands.specs.feed.FeedEvents.{begun}
use Rattle.run_commands.specs.declared.feed.feed.Feed.{Feed}
use Rattle.session_core.specs.Commands.{talk_of}
use Rattle.session_core.specs.FedLines.{short_line_after}
use Rattle.session_core.specs.declared.bodies.Bodies.{Bodies}
use Rattle.session_core.specs.declared.bodies.Bodies.TheVariants.{Refused, Skipped, Gathered, Fed}

-- ---- the text of a load

-- how many bytes the text of a load may have
abbrev pub load_limit : ℕ
load_limit = 1048576

-- the text with one more line and a line feed, None if it has more bytes than it may have
abbrev pub gather : Option (List ℕ) → List ℕ → Option (List ℕ)
gather None line = None
gather (Some text) line = if nat_lt load_limit (length text + length line + 1) then None else Some (text ++ line ++ 10 ∷ [])

-- ---- after a line

-- after a line of a command that begins no body: body lines are skipped with a load or feed, or refused
abbrev pub unfed : List ℕ → Bodies
unfed text = if takes_body text then Skipped else Refused

-- after a command that takes no body: body lines are skipped with it if it isn't carried out yet
abbrev pub after_bodiless : Command → List ℕ → Bodies
after_bodiless command text = if is_some (talk_of command) then unfed text else Skipped

-- after a line of a command, in the world that it leaves: body lines are the text of a load, or the records of a feed,
-- whose server is there
abbrev pub after_asked : List ℕ → Asked → World → Bodies
after_asked text (asks commands.Load) w = Gathered (Some [])
after_asked text (asks (commands.Feed server)) w = option_map_or Fed (begun server w) Skipped
after_asked text (asks other) w = after_bodiless other text
after_asked text unknown w = unfed text
after_asked text bad w = unfed text

-- after a body line with its number, from a world on: one more line of a load is gathered, or one more of a feed taken
abbrev pub after_body : Bodies → ℕ → List ℕ → World → Bodies
after_body Refused number line w = Refused
after_body Skipped number line w = Skipped
after_body (Gathered text) number line w = Gathered (gather text line)
after_body (Fed feed) number line w = option_map_or Fed (short_line_after feed number line w) Skipped

-- after a body line over the limit: the rest of a load or of a feed is skipped
abbrev pub after_long_body : Bodies → Bodies
after_long_body Refused = Refused
after_long_body Skipped = Skipped
after_long_body (Gathered text) = Skipped
after_long_body (Fed feed) = Skipped

-- ---- what the program keeps

-- something holds of the feed, if body lines are the records of one
abbrev pub IfFeed : Bodies → (Feed → Type 0) → Type 0
IfFeed Refused P = Unit {0}
IfFeed Skipped P = Unit {0}
IfFeed (Gathered text) P = Unit {0}
IfFeed (Fed feed) P = P feed

-- the next line has this number at least, and a feed has fewer records than that, committed and waiting
abbrev pub KeepsBodies : ℕ → Bodies → Type 0
KeepsBodies number bodies = IfFeed bodies (λ feed. IsFeed feed × (feed.fed + length feed.records < number))
