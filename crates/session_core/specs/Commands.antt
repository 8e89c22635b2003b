-- What a run does at a line that asks for a command.
use Rattle.std.specs.Prelude.{ℕ, Bool, false, not, ◌&&◌, codes, if◌then◌else◌, List, [], ◌∷◌, Option, Some, None}
use Rattle.std.specs.List.{list_any}
use Rattle.std.specs.Option.{option_map_or}
use Rattle.std.specs.Str.{bytes_eq, is_utf8}
use Rattle.repl_types.specs.declared.refusal.Refusal.{Refusal}
use Rattle.repl_types.specs.declared.refusal.Refusal.TheVariants as refusals
use Rattle.repl_commands.specs.declared.command.Command.{Command}
use Rattle.repl_commands.specs.declared.command.Command.TheVariants.{Load, Feed, Capture, CaptureCold, Prune, PruneNormal, Step, Apply, Refresh, Stop, Generate, Rounds, Audit, StatusServer, StatusSet, ShowSource, ShowCd, ShowUow, ShowLog, ShowTarget, ShowTrail, ShowRejected}
use Rattle.repl_model.specs.World.{World}
use Rattle.run_core.specs.Runs.{Event}
use Rattle.script_text.specs.Words.{first_word}
use Rattle.script_text.specs.Asked.{Asked, asks, unknown, bad, asked_by}
use Rattle.run_commands.specs.parts.Refusing.{refused}
use Rattle.run_commands.specs.apply.StepEvents.{step_events, apply_events}
use Rattle.run_commands.specs.capture.CaptureEvents.{capture_events}
use Rattle.run_commands.specs.feed.FeedEvents.{begin_events}
use Rattle.run_commands.specs.refresh.RefreshEvents.{refresh_events}
use Rattle.run_commands.specs.show.ShowEvents.{source_events, log_events, changes_events, units_events}
use Rattle.run_commands.specs.status.StatusEvents.{status_events}
use Rattle.run_commands.specs.target.TargetEvents.{set_events, target_events}

-- ---- which commands are carried out

-- what a run does at a command on a line with a number, None if the command isn't carried out yet; the text of a load is
-- loaded at its end
abbrev pub talk_of : Command → Option (ℕ → World → List (Event World))
talk_of Load = Some (λ number w. [])
talk_of (Feed server) = Some (λ number. begin_events server)
talk_of (Capture server units every) = Some (λ number. capture_events server units every)
talk_of (CaptureCold server) = None
talk_of (Prune server minutes) = None
talk_of (PruneNormal server) = None
talk_of (Step set) = Some (λ number. step_events number set)
talk_of (Apply set) = Some (λ number. apply_events number set)
talk_of (Refresh set) = Some (λ number. refresh_events set)
talk_of (Stop server table) = None
talk_of (Generate server table seed units changes) = None
talk_of (Rounds qual) = None
talk_of (Audit set) = None
talk_of (StatusServer server) = Some (λ number. status_events server)
talk_of (StatusSet set) = Some (λ number. set_events number set)
talk_of (ShowSource server table) = Some (λ number. source_events server table)
talk_of (ShowCd server table) = Some (λ number. changes_events server table)
talk_of (ShowUow server) = Some (λ number. units_events server)
talk_of (ShowLog server) = Some (λ number. log_events server)
talk_of (ShowTarget server table) = Some (λ number. target_events number server table)
talk_of (ShowTrail server set) = None
talk_of (ShowRejected server set) = None

-- the first words of these commands, as `first_words_of_commands` shows
abbrev pub carried_out_verbs : List (List ℕ)
carried_out_verbs = codes "load" ∷ codes "feed" ∷ codes "capture" ∷ codes "step" ∷ codes "apply" ∷ codes "refresh" ∷ codes "show" ∷ codes "status" ∷ []

-- a word is one of them
abbrev pub is_carried_out_verb : List ℕ → Bool
is_carried_out_verb word = list_any (bytes_eq word) carried_out_verbs

-- the first word of a line is one of them
abbrev pub begins_with_carried_out_verb : List ℕ → Bool
begins_with_carried_out_verb line = option_map_or is_carried_out_verb (first_word line) false

-- the command takes no body
abbrev pub takes_no_body : Command → Type 0
takes_no_body Load = ⊥
takes_no_body (Feed server) = ⊥
takes_no_body other = Unit {0}

-- ---- a line

-- at a command; one that isn't carried out is unknown
abbrev pub command_events : ℕ → Command → World → List (Event World)
command_events number command w = option_map_or (λ events. events number w) (talk_of command) (refused (refusals.UnknownCommand number))

-- why a line that is of no command is refused: its first word is that of a command, so the line is bad; but as long as no
-- form of that command is carried out, it is unknown
abbrev pub bad_line_refusal : ℕ → List ℕ → Refusal
bad_line_refusal number line = if is_utf8 line && not (begins_with_carried_out_verb line) then refusals.UnknownCommand number else refusals.BadLine number

-- at what a line asks for
abbrev pub asked_events : ℕ → List ℕ → Asked → World → List (Event World)
asked_events number line (asks command) w = command_events number command w
asked_events number line unknown w = refused (refusals.UnknownCommand number)
asked_events number line bad w = refused (bad_line_refusal number line)

-- at a line with its number
abbrev pub command_line_events : ℕ → List ℕ → World → List (Event World)
command_line_events number line w = asked_events number line (asked_by line) w
