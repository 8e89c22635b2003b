-- The replies that show the rows of a table of the source, the log, and what was captured of it.
use Rattle.std.specs.Prelude.{ℕ, max, if◌then◌else◌, List, [], ◌∷◌, ◌++◌, length, map, Option}
use Rattle.std.specs.List.{flat_map}
use Rattle.std.specs.Option.{option_and_then, option_map_or}
use Rattle.std.specs.FinMap.{entries}
use Rattle.repl_types.specs.declared.change_row.CdRow.{CdRow}
use Rattle.repl_types.specs.declared.table.TableDef.{TableDef}
use Rattle.repl_types.specs.declared.unit.Unit.{Unit}
use Rattle.repl_types.specs.declared.unit.UnitHead.{UnitHead}
use Rattle.repl_records.specs.declared.record_keys.CdKey.{CdKey}
use Rattle.repl_records.specs.declared.capture.ChangeRow.{ChangeRow}
use Rattle.repl_records.specs.declared.capture.UowRow.{UowRow}
use Rattle.reply_text.specs.declared.reply.Reply.TheVariants as replies
use Rattle.reply_text.specs.Replies.{reply_line}
use Rattle.reply_text.specs.Rows.{row_line, log_line, change_row_line, unit_line}
use Rattle.repl_model.specs.Tables.{Rows}
use Rattle.repl_model.specs.Units.{positions, last_commit}
use Rattle.repl_model.specs.SourceAt.{source_at, units_between}
use Rattle.repl_model.specs.ChangeRows.{changes_between}
use Rattle.repl_model.specs.World.{Registered, Server, code_in, server_table}

-- the line that says how many rows were shown
abbrev pub count_line : ℕ → List ℕ
count_line rows = reply_line (replies.Shown rows)

-- ---- the source

-- the committed rows of a table
abbrev pub committed_rows : Server → TableDef → Rows
committed_rows server def = source_at def server.log (last_commit server.log)

-- the lines of the reply: of each committed row of a table, in the order of their keys, and of their count
abbrev pub source_lines : Server → TableDef → List (List ℕ)
source_lines server def = map (λ entry. row_line entry.1) (entries (committed_rows server def)) ++ count_line (length (entries (committed_rows server def))) ∷ []

-- the lines one after another
abbrev pub source_text : Server → TableDef → List ℕ
source_text server def = flat_map (λ line. line) (source_lines server def)

-- the reply about the table of a name, and nothing if there is none
abbrev pub table_reply : List ℕ → Server → List ℕ
table_reply name server = option_map_or (λ t. source_text server t.def) (server_table name server) []

-- the lines of the reply: of each record of the log at its position, in order, and of their count
abbrev pub log_lines : Server → List (List ℕ)
log_lines server = map (λ r. log_line r.0 r.1) (positions server.log) ++ count_line (length server.log) ∷ []

-- the lines one after another
abbrev pub log_text : Server → List ℕ
log_text server = flat_map (λ line. line) (log_lines server)

-- ---- change rows

-- the line of a change row by its key and what is stored under it
abbrev pub stored_change_line : CdKey → ChangeRow → List ℕ
stored_change_line key row = change_row_line (record { commitseq = key.commitseq; intentseq = key.intentseq; op = row.op; after = row.after; before = row.before })

-- the registration of the table of a name, if the server has the table and it is registered
abbrev pub registered_named : List ℕ → Server → Option Registered
registered_named name server = option_and_then (λ t. t.registered) (server_table name server)

-- the change rows of a registration: if it is active, those of the units that are captured and stand above its
-- start and its floor; else none
abbrev pub captured_changes : Server → Registered → List CdRow
captured_changes server r = if r.active then changes_between server.log r.reg (max r.start r.floor) server.captured else []

-- the lines of the reply: of each change row of a registration, in the order of units and of places in the log,
-- and of their count
abbrev pub change_lines : Server → Registered → List (List ℕ)
change_lines server r = map change_row_line (captured_changes server r) ++ count_line (length (captured_changes server r)) ∷ []

-- the lines one after another
abbrev pub change_text : Server → Registered → List ℕ
change_text server r = flat_map (λ line. line) (change_lines server r)

-- the reply about the table of a name, and nothing if it isn't registered
abbrev pub change_reply : List ℕ → Server → List ℕ
change_reply name server = option_map_or (change_text server) (registered_named name server) []

-- ---- units

-- the line of a unit by its seq and what is stored under it
abbrev pub stored_unit_line : ℕ → UowRow → List ℕ
stored_unit_line seq row = unit_line (record { seq = seq; time = row.time; authid = row.authid; origin = row.origin; code = row.code })

-- the units that are captured and stand above the floor
abbrev pub captured_units : Server → List Unit
captured_units server = units_between server.floor server.captured server.log

-- a unit with the code that is shown for it
abbrev pub with_code : Server → Unit → UnitHead
with_code server u = record u.head { code = code_in server.shown u.head.seq }

-- the lines of the reply: of each such unit, in order, and of their count
abbrev pub unit_lines : Server → List (List ℕ)
unit_lines server = map (λ u. unit_line (with_code server u)) (captured_units server) ++ count_line (length (captured_units server)) ∷ []

-- the lines one after another
abbrev pub unit_text : Server → List ℕ
unit_text server = flat_map (λ line. line) (unit_lines server)
