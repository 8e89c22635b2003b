-- What a run does at the lines of a feed.
use Rattle.std.specs.Prelude.{ℕ, ◌+◌, if◌then◌else◌, List, [], ◌∷◌, ◌++◌, length, Option, Some, None, is_some, slice_index_or}
use Rattle.std.specs.Option.{option_map, option_map_or}
use Rattle.repl_types.specs.declared.record.LogRecord.{LogRecord}
use Rattle.repl_types.specs.declared.refusal.Refusal.{Refusal}
use Rattle.repl_types.specs.declared.refusal.Refusal.TheVariants as refusals
use Rattle.repl_types.specs.declared.call_errors.AppendError.{AppendError}
use Rattle.repl_types.specs.declared.call_errors.AppendError.TheVariants as errors
use Rattle.log_text.specs.Records.{record_of}
use Rattle.repl_model.specs.Longer.{grown}
use Rattle.repl_model.specs.World.{Server, World, server_named}
use Rattle.reply_text.specs.Replies.{reply_line}
use Rattle.reply_text.specs.declared.reply.Reply.TheVariants as replies
use Rattle.run_core.specs.Runs.{Event, commits, writes, is_refused}
use Rattle.run_commands.specs.parts.Refusing.{refused}
use Rattle.source_log.specs.Appending.{taken, append_error}
use Rattle.run_commands.specs.feed.Feeds.{new_feed, with_record, committed, is_full}
use Rattle.run_commands.specs.declared.feed.feed.Feed.{Feed}

-- ---- records that are committed together

-- the records that are taken are committed, if there are some
abbrev pub commit_events : List ℕ → List LogRecord → World → List (Event World)
commit_events name [] w = []
commit_events name (r ∷ rs) w = commits (grown name (r ∷ rs) w) ∷ []

-- the line of a record that isn't applicable is refused, or the server whose log is full
abbrev pub error_events : Feed → AppendError → List (Event World)
error_events feed (errors.Fault e) = []
error_events feed (errors.NotApplicable place) = refused (refusals.NotApplicable (slice_index_or feed.lines place 0))
error_events feed (errors.LogFull place) = refused (refusals.LogFull feed.server)

-- the first of the records that wait are committed at a server, up to the first that isn't taken, which is refused
abbrev pub server_events : Feed → World → Server → List (Event World)
server_events feed w server = commit_events feed.server (taken server feed.records) w ++ option_map_or (error_events feed) (append_error server feed.records) []

-- that at the server of the feed
abbrev pub batch_events : Feed → World → List (Event World)
batch_events feed w = option_map_or (server_events feed w) (server_named feed.server w) (refused (refusals.NoSuchServer feed.server))

-- that, and something more if nothing was refused
abbrev pub batch_and : Feed → List (Event World) → World → List (Event World)
batch_and feed more w = let batch = batch_events feed w in batch ++ (if is_refused batch then [] else more)

-- ---- lines

-- at the line of the command: a server that isn't there is refused
abbrev pub begin_events : List ℕ → World → List (Event World)
begin_events name w = if is_some (server_named name w) then [] else refused (refusals.NoSuchServer name)

-- at a record: it waits, and the records that wait are committed if there are enough
abbrev pub record_events : Feed → ℕ → LogRecord → World → List (Event World)
record_events feed number r w = let more = with_record number r feed in if is_full more r then batch_events more w else []

-- at a line that is refused: the records before it are committed first
abbrev pub refused_events : Feed → Refusal → World → List (Event World)
refused_events feed refusal w = batch_and feed (refused refusal) w

-- at a body line with its number: it is a record, or it is refused
abbrev pub feed_line_events : Feed → ℕ → List ℕ → World → List (Event World)
feed_line_events feed number text w = option_map_or (λ r. record_events feed number r w) (record_of text) (refused_events feed (refusals.BadLog number) w)

-- the position of the last record at the feed's server, once the records that wait are appended
abbrev pub last_position : Feed → World → ℕ
last_position feed w = option_map_or (λ server. length server.log + length feed.records) (server_named feed.server w) 0

-- at the end of the body: the records that wait are committed, and a line says how many records were fed
abbrev pub feed_end_events : Feed → World → List (Event World)
feed_end_events feed w = batch_and feed (writes (reply_line (replies.Fed (feed.fed + length feed.records) (last_position feed w))) ∷ []) w

-- ---- the feed after a line

-- after the line of the command
abbrev pub begun : List ℕ → World → Option Feed
begun name w = if is_some (server_named name w) then Some (new_feed name) else None

-- after a record
abbrev pub after_record : Feed → ℕ → LogRecord → Feed
after_record feed number r = let more = with_record number r feed in if is_full more r then committed more else more

-- after a body line, None if something was refused, and then the rest of the body is skipped
abbrev pub feed_after : Feed → ℕ → List ℕ → World → Option Feed
feed_after feed number text w = if is_refused (feed_line_events feed number text w) then None else option_map (after_record feed number) (record_of text)
