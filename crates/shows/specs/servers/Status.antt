-- The reply of `status` of a server.
use Rattle.std.specs.Prelude.{ℕ, List, [], ◌∷◌, ◌++◌, map, slice_get}
use Rattle.std.specs.List.{filter_map, flat_map}
use Rattle.std.specs.Option.{option_map, option_map_or}
use Rattle.repl_records.specs.declared.capture.RegState.{RegState}
use Rattle.repl_records.specs.declared.prune.SyncMark.{SyncMark}
use Rattle.reply_text.specs.declared.reply.Reply.TheVariants as replies
use Rattle.reply_text.specs.declared.status.ServerStatus.{ServerStatus}
use Rattle.reply_text.specs.Replies.{reply_line}
use Rattle.reply_text.specs.Status.{registration_line, source_set_line}
use Rattle.repl_model.specs.World.{Registered, ServerTable, SourceSide, Server}
use Rattle.world_store.specs.LogRows.{head_of}
use Rattle.world_store.specs.CaptureRows.{capture_state}

-- the state of a registration
abbrev pub state_of : Registered → RegState
state_of r = record { active = r.active; start = r.start; floor = r.floor }

-- what a server knows of a set whose source it is
abbrev pub mark_of : SourceSide → SyncMark
mark_of side = record { mark = side.mark; signal = side.signal }

-- how far the log of a server is, and how far it is captured and pruned
abbrev pub status_of : Server → ServerStatus
status_of server = let head = head_of server in let capture = capture_state server in
    record { last = head.last; commit = head.commit; time = head.time; captured = capture.captured; restart = capture.restart; floor = capture.floor }

-- the last line of the reply
abbrev pub last_line : Server → List ℕ
last_line server = reply_line (replies.Server (status_of server))

-- the lines of the reply: of each registration, in the order of the tables, of each set whose source the
-- server is, in order, and of its log
abbrev pub status_lines : Server → List (List ℕ)
status_lines server =
    filter_map (λ t. option_map (λ r. registration_line t.def.name (state_of r)) t.registered) server.tables
    ++ map (λ side. source_set_line side.def.id (mark_of side)) server.source_sets
    ++ last_line server ∷ []

-- the lines one after another
abbrev pub status_text : Server → List ℕ
status_text server = flat_map (λ line. line) (status_lines server)

-- ---- one after another

-- the line of a table's registration, or nothing if it isn't registered
abbrev pub registration_text : ServerTable → List ℕ
registration_text t = option_map_or (λ r. registration_line t.def.name (state_of r)) t.registered []

-- the line of a set at its source
abbrev pub set_text : SourceSide → List ℕ
set_text side = source_set_line side.def.id (mark_of side)

-- the text of the thing at a place, or nothing if nothing is there
abbrev pub text_at : {X : Type 0} → (X → List ℕ) → List X → ℕ → List ℕ
text_at text xs n = option_map_or text (slice_get xs n) []
