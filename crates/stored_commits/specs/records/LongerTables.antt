-- The stored log of a server and its end, and what one more record makes of them.
use Rattle.std.specs.Prelude.{◌≡◌, ◌+◌, ◌≤◌, [], ◌∷◌, length, Some}
use Rattle.repl_types.specs.declared.record.LogRecord.{LogRecord}
use Rattle.repl_types.specs.declared.record.LogRecord.TheVariants as records
use Rattle.row_codec.specs.Spelling.{b64}
use Rattle.row_codec.specs.LogRecords.{log_spelling}
use Rattle.repl_records.specs.declared.source_side.Head.{Head}
use Rattle.repl_records.specs.RecordKeys.{single_spelling}
use Rattle.repl_records.specs.SourceSide.{head_spelling, IsHead}
use Rattle.keep_core.specs.Contents.{Table, set_key}
use Rattle.rows_in_order.specs.Rows.{table_from_rows}
use Rattle.repl_model.specs.World.{Server}
use Rattle.repl_model.specs.SoundLogs.{LogIsSound, log_limit}
use Rattle.repl_model.specs.Longer.{with_more}
use Rattle.world_store.specs.LogRows.{log_rows, head_of, head_rows}

-- ---- the log

-- the stored log of a server
abbrev pub log_table : Server → Table
log_table server = table_from_rows b64 log_spelling (log_rows server)

-- one more record is a row that is put at the position after the end of the log
abbrev pub LogGetsRow : Type 0
LogGetsRow = (server : Server) (r : LogRecord) → length server.log ≤ log_limit
    → log_table (with_more (r ∷ []) server) ≡ set_key (log_table server) (b64 (length server.log + 1)) (Some (log_spelling r))

-- ---- its end

-- the stored end of a server's log
abbrev pub head_table : Server → Table
head_table server = table_from_rows single_spelling head_spelling (head_rows server)

-- The end of a log after one more record: its position is the last one, and if it is a commit, it is the last
-- commit, and its time the last time.
abbrev pub head_after : LogRecord → Head → Head
head_after (records.Change tx change) head = record { last = head.last + 1; commit = head.commit; time = head.time }
head_after (records.Commit tx time authid origin) head = record { last = head.last + 1; commit = head.last + 1; time = time }
head_after (records.Abort tx) head = record { last = head.last + 1; commit = head.commit; time = head.time }

-- the end of the log after one more record follows from its end before, and from the record
abbrev pub HeadGoesOn : Type 0
HeadGoesOn = (server : Server) (r : LogRecord) → head_of (with_more (r ∷ []) server) ≡ head_after r (head_of server)

-- the end of a sound log has a spelling
abbrev pub HeadFits : Type 0
HeadFits = (server : Server) → LogIsSound server → IsHead (head_of server)
