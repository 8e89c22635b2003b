-- What a run of a script does, line by line: the lines that it writes, and the worlds that it commits.
use Rattle.std.specs.Prelude.{ℕ, List, [], ◌∷◌}
use Rattle.repl_types.specs.declared.refusal.Refusal.TheVariants as refusals
use Rattle.repl_model.specs.World.{World}
use Rattle.run_core.specs.Runs.{Event, last_world}
use Rattle.line_input.specs.Lines.{ScriptLine, command, body, long_command, long_body, script_of}
use Rattle.script_text.specs.Asked.{asked_by}
use Rattle.session_core.specs.Bodies.{after_asked, after_body, after_long_body}
use Rattle.run_commands.specs.parts.Parts.{then_events}
use Rattle.run_commands.specs.parts.Refusing.{refused}
use Rattle.session_core.specs.Commands.{command_line_events}
use Rattle.run_commands.specs.load.LoadEvents.{load_text_events}
use Rattle.run_commands.specs.feed.FeedEvents.{feed_end_events, refused_events}
use Rattle.session_core.specs.FedLines.{short_line_events}
use Rattle.session_core.specs.declared.bodies.Bodies.{Bodies}
use Rattle.session_core.specs.declared.bodies.Bodies.TheVariants.{Refused, Skipped, Gathered, Fed}

-- ---- the end of a body

-- at the end of a body: the text of a load is loaded, or what is left of a feed committed
abbrev pub end_events : Bodies → World → List (Event World)
end_events Refused w = []
end_events Skipped w = []
end_events (Gathered text) w = load_text_events text w
end_events (Fed feed) w = feed_end_events feed w

-- ---- one line

-- what a run does at a body line with its number: it is refused, or skipped or gathered, or it is a line of a feed, of which
-- a blank one is skipped
abbrev pub body_events : Bodies → ℕ → List ℕ → World → List (Event World)
body_events Refused number text w = refused (refusals.BadLine number)
body_events Skipped number text w = []
body_events (Gathered gathered) number text w = []
body_events (Fed feed) number text w = short_line_events feed number text w

-- at one over the limit: it is refused, unless it is skipped
abbrev pub long_body_events : Bodies → ℕ → World → List (Event World)
long_body_events Refused number w = refused (refusals.LineTooLong number)
long_body_events Skipped number w = []
long_body_events (Gathered gathered) number w = refused (refusals.LineTooLong number)
long_body_events (Fed feed) number w = refused_events feed (refusals.LineTooLong number) w

-- what a run does at a line with its number; a line of a command ends the body before it
abbrev pub line_events : Bodies → ℕ → ScriptLine → World → List (Event World)
line_events bodies number (command text) w = then_events (end_events bodies) (command_line_events number text) w
line_events bodies number (body text) w = body_events bodies number text w
line_events bodies number long_command w = then_events (end_events bodies) (λ v. refused (refusals.LineTooLong number)) w
line_events bodies number long_body w = long_body_events bodies number w

-- what it does with body lines after that
abbrev pub bodies_after : Bodies → ℕ → ScriptLine → World → Bodies
bodies_after bodies number (command text) w = after_asked text (asked_by text) (last_world w (end_events bodies w))
bodies_after bodies number (body text) w = after_body bodies number text w
bodies_after bodies number long_command w = Refused
bodies_after bodies number long_body w = after_long_body bodies

-- ---- a script

-- what a run does at some lines, given what it does with body lines before the next line of a command
abbrev pub talk : Bodies → List (ℕ × ScriptLine) → World → List (Event World)
talk bodies [] w = end_events bodies w
talk bodies (line ∷ lines) w = then_events (line_events bodies line.0 line.1) (talk (bodies_after bodies line.0 line.1 w) lines) w

-- what a run does at a script
abbrev pub script_events : List ℕ → World → List (Event World)
script_events input w = talk Refused (script_of input) w
