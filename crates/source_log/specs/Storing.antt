-- What taking a record makes of the stored tables of a server's log.
use Rattle.std.specs.Prelude.{◌≡◌, ◌⊎◌, ℕ, ◌<◌, false, IsTrue, nat_lt, if◌then◌else◌, List, [], ◌∷◌, length, Option, Some, None}
use Rattle.repl_types.specs.declared.area.Area.{Area}
use Rattle.repl_types.specs.declared.area.Area.TheVariants as areas
use Rattle.repl_types.specs.declared.record.Change.{Change}
use Rattle.repl_types.specs.declared.record.LogRecord.{LogRecord}
use Rattle.repl_types.specs.declared.record.LogRecord.TheVariants as records
use Rattle.keep_core.specs.Contents.{Contents, IsLastKey}
use Rattle.row_codec.specs.LogRecords.{IsLogRecord, log_spelling}
use Rattle.row_codec.specs.Spelling.{b64, short_text}
use Rattle.repl_definitions.specs.Defined.{defined_table_spelling}
use Rattle.repl_definitions.specs.declared.defined.DefinedTable.{DefinedTable}
use Rattle.repl_records.specs.declared.source_side.Head.{Head}
use Rattle.repl_records.specs.RecordKeys.{IsInFlightKey}
use Rattle.rows_in_order.specs.Rows.{table_from_rows}
use Rattle.repl_model.specs.Applicable.{is_applicable}
use Rattle.repl_model.specs.World.{Server, World, tables_of}
use Rattle.repl_model.specs.SoundDefinitions.{ServerKeepsRules}
use Rattle.repl_model.specs.SoundLogs.{LogIsSound, log_limit}
use Rattle.repl_model.specs.Longer.{with_more}
use Rattle.world_store.specs.DefinitionRows.{table_rows}
use Rattle.world_store.specs.LogRows.{head_of}
use Rattle.world_store.specs.Stands.{shown}
use Rattle.world_store.specs.Tables.{source_table}
use Rattle.stored_commits.specs.logs.LongerServers.{is_of_log}
use Rattle.stored_commits.specs.records.InFlight.{in_flight_table}
use Rattle.stored_commits.specs.records.LongerTables.{log_table, head_after, head_table}
use Rattle.site_store.specs.Damage.{AddsOnlySpelt}
use Rattle.world_commits.specs.logs.LongerLogs.{is_users, IsEarly}
use Rattle.source_log.specs.Rules.{rules, flight_key, HasTable, IsKnown, IsKeptChange}
use Rattle.source_log.specs.declared.outcome.Outcome.{Outcome}
use Rattle.source_log.specs.declared.outcome.Outcome.TheVariants as outcomes

-- ---- a server

-- What is known of a server of a sound world, whatever records follow: its log is sound, and it has the tables of a
-- server that keeps the rules.
pub record IsKept (server : Server) : Type 0 where
  pub log : LogIsSound server
  pub world : World
  pub before : Server
  pub keeps : ServerKeepsRules world before
  pub tables : before.tables ≡ server.tables

-- The stored tables are those of a server's log. The end of the log stands elsewhere until it is put.
pub record Stores (server : Server) (c : Contents) : Type 0 where
  pub log : c areas.Log 0 ≡ log_table server
  pub source : (n : ℕ) → c areas.Source n ≡ source_table server n
  pub in_flight : c areas.Inflight 0 ≡ in_flight_table server
  pub defs : c areas.Defs 0 ≡ table_from_rows short_text defined_table_spelling (table_rows server)

-- The contents have all tables of a server's log, its end among them.
pub record StoresWhole (server : Server) (c : Contents) : Type 0 where
  pub kept : IsKept server
  pub stores : Stores server c
  pub end : shown server areas.Head 0 (c areas.Head 0) ≡ head_table server

-- ---- one record

-- what becomes of a record at a server: it is taken if it is applicable and the log has room
abbrev pub outcome_of : Server → LogRecord → Outcome
outcome_of server r = if is_applicable (tables_of server) server.log r
    then (if nat_lt (length server.log) log_limit then outcomes.Taken else outcomes.Full)
    else outcomes.NotApplicable

-- the server after that
abbrev pub after_outcome : Outcome → LogRecord → Server → Server
after_outcome outcomes.Taken r server = with_more (r ∷ []) server
after_outcome outcomes.NotApplicable r server = server
after_outcome outcomes.Full r server = server

-- and the end of its log
abbrev pub end_after : Outcome → LogRecord → Head → Head
end_after outcomes.Taken r head = head_after r head
end_after outcomes.NotApplicable r head = head
end_after outcomes.Full r head = head

-- ---- contents that show no other damage

-- a record may stand in the log of these contents
abbrev pub MayBeLogged : Contents → LogRecord → Type 0
MayBeLogged c (records.Change tx change) = (table : DefinedTable) × HasTable c change table
MayBeLogged c (records.Commit tx time authid origin) = Unit {0}
MayBeLogged c (records.Abort tx) = Unit {0}

-- A record was put where there was none.
pub record GetsRecord (c d : Contents) (key : List ℕ) : Type 0 where
  pub free : c areas.Log 0 key ≡ None
  pub r : LogRecord
  pub stands : d areas.Log 0 key ≡ Some (log_spelling r)
  pub typed : IsLogRecord r
  pub may : MayBeLogged c r

-- A change in flight was put together with its record.
pub record GetsInFlight (d : Contents) (key : List ℕ) : Type 0 where
  pub tx : ℕ
  pub pos : ℕ
  pub fits : IsInFlightKey (record { tx = tx; pos = pos })
  pub is : key ≡ flight_key tx pos
  pub change : Change
  pub kept : IsKeptChange tx d pos change

-- The log only got records, and what is in flight changes that stand in it; the tables are as they were.
pub record Extends (c d : Contents) : Type 0 where
  pub defs : d areas.Defs 0 ≡ c areas.Defs 0
  pub log : (key : List ℕ) → (d areas.Log 0 key ≡ c areas.Log 0 key) ⊎ GetsRecord c d key
  pub in_flight : (key value : List ℕ) → d areas.Inflight 0 key ≡ Some value → (c areas.Inflight 0 key ≡ Some value) ⊎ GetsInFlight d key
  pub adds : AddsOnlySpelt rules c d

-- ---- calls

-- A record was taken, or it wasn't.
pub record TakesRecord (head : Head) (r : LogRecord) (outcome : Outcome) (c d : Contents) : Type 0 where
  pub others : (a : Area) (n : ℕ) → is_of_log a n ≡ false → d a n ≡ c a n
  pub end : (n : ℕ) → d areas.Head n ≡ c areas.Head n
  pub extends : IsLastKey (c areas.Log 0) (b64 head.last) → Extends c d
  pub ends : IsLastKey (c areas.Log 0) (b64 head.last) → IsLastKey (d areas.Log 0) (b64 (end_after outcome r head).last)
  pub told : (server : Server) → IsKept server → head ≡ head_of server → Stores server c → outcome ≡ outcome_of server r
  pub stores : (server : Server) → IsKept server → head ≡ head_of server → Stores server c → Stores (after_outcome outcome r server) d

-- a record was taken, or it wasn't, if the contents have the table that is known; they have the one that is known then
abbrev pub TakesKnowing : Option DefinedTable → Option DefinedTable → Head → LogRecord → Outcome → Contents → Contents → Type 0
TakesKnowing before now head r outcome c d = IsKnown before c → TakesRecord head r outcome c d × IsKnown now d

-- A record that a user may append, if it is applicable and there is room.
pub record MayAppend (r : LogRecord) : Type 0 where
  pub typed : IsLogRecord r
  pub users : IsTrue (is_users r)
  pub early : IsEarly r

-- a record that was taken has room
abbrev pub HasRoom : Head → Outcome → Type 0
HasRoom head outcome = outcome ≡ outcomes.Taken → head.last < log_limit

-- the record is a commit of a transaction at a time
abbrev pub IsCommit : ℕ → ℕ → LogRecord → Type 0
IsCommit tx time (records.Change t change) = ⊥
IsCommit tx time (records.Commit t at authid origin) = (t ≡ tx) × (at ≡ time)
IsCommit tx time (records.Abort t) = ⊥
