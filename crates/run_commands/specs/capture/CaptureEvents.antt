-- What a run does at `capture S`.
use Rattle.std.specs.Prelude.{ℕ, Bool, max, List, [], ◌∷◌, ◌++◌, Option, unwrap_or}
use Rattle.std.specs.List.{position}
use Rattle.std.specs.Option.{option_map_or}
use Rattle.std.specs.Str.{bytes_eq}
use Rattle.repl_types.specs.declared.refusal.Refusal.TheVariants as refusals
use Rattle.repl_model.specs.World.{Server, World}
use Rattle.reply_text.specs.Replies.{reply_line}
use Rattle.reply_text.specs.declared.reply.Reply.TheVariants as replies
use Rattle.run_core.specs.Runs.{Event, writes}
use Rattle.capture_core.specs.Capturing.{captured_counts, capture_events as capture_commits}
use Rattle.capture_core.specs.declared.captured.Captured.{Captured}
use Rattle.run_commands.specs.parts.Refusing.{refused}

-- how many units are committed together: 100 if the command doesn't say, and at least one
abbrev pub units_per_commit : Option ℕ → ℕ
units_per_commit every = max (unwrap_or every 100) 1

-- a server has this name
abbrev pub is_named : List ℕ → Server → Bool
is_named name server = bytes_eq name server.name

-- the number of the server of a name, if there is one
abbrev pub number_named : List ℕ → World → Option ℕ
number_named name w = position (is_named name) w

-- the line that says how far a server is captured, and what was written
abbrev pub counts_line : Captured → List ℕ
counts_line captured = reply_line (replies.Captured captured.upto captured.units captured.rows)

-- at the server with a number: its commits, and then that line
abbrev pub server_events : Option ℕ → Option ℕ → World → ℕ → List (Event World)
server_events units every w server =
    capture_commits server units (units_per_commit every) w ++ writes (counts_line (captured_counts server units w)) ∷ []

-- at the server of a name, which is refused if no server has it
abbrev pub capture_events : List ℕ → Option ℕ → Option ℕ → World → List (Event World)
capture_events name units every w = option_map_or (server_events units every w) (number_named name w) (refused (refusals.NoSuchServer name))
