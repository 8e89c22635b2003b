-- The stored changes in flight of a server, what one more record makes of them, and which are a transaction's.
use Rattle.std.specs.Prelude.{◌≡◌, ℕ, ◌+◌, ◌<◌, ◌≤◌, ◌==◌, IsTrue, not, List, [], ◌∷◌, length, map, filter, Some}
use Rattle.std.specs.List.{AllByRecursion}
use Rattle.repl_types.specs.declared.record.Change.{Change}
use Rattle.repl_types.specs.declared.record.LogRecord.{LogRecord}
use Rattle.repl_types.specs.declared.record.LogRecord.TheVariants as records
use Rattle.repl_types.specs.declared.unit.Placed.{Placed}
use Rattle.row_codec.specs.Spelling.{Is32, b32, b64}
use Rattle.row_codec.specs.LogRecords.{log_spelling}
use Rattle.repl_records.specs.declared.record_keys.InFlightKey.{InFlightKey}
use Rattle.repl_records.specs.declared.source_side.InFlight.{InFlight}
use Rattle.repl_records.specs.RecordKeys.{in_flight_key_spelling, IsInFlightKey}
use Rattle.repl_records.specs.SourceSide.{in_flight_spelling}
use Rattle.keep_core.specs.Contents.{Table, set_key}
use Rattle.rows_in_order.specs.Rows.{table_from_rows, AllAfter, IsRising, with_prefix, HasRow}
use Rattle.repl_model.specs.Units.{ends, open_changes}
use Rattle.repl_model.specs.World.{Server}
use Rattle.repl_model.specs.SoundLogs.{LogIsSound, log_limit}
use Rattle.repl_model.specs.Longer.{with_more}
use Rattle.world_store.specs.LogRows.{log_rows, in_flight_rows}
use Rattle.stored_commits.specs.records.LongerTables.{log_table}

-- ---- rows

-- a change in flight, under its transaction and position
abbrev pub InFlightRow : Type 0
InFlightRow = InFlightKey × InFlight

-- the row of a change that a transaction has in flight
abbrev pub in_flight_row : ℕ → Placed → InFlightRow
in_flight_row tx placed = (record { tx = tx; pos = placed.pos }, record {})

-- the changes that a transaction has in flight
abbrev pub of_transaction : ℕ → List InFlightRow → List InFlightRow
of_transaction tx rows = filter (λ row. row.0.tx == tx) rows

-- the changes that other transactions have in flight
abbrev pub of_others : ℕ → List InFlightRow → List InFlightRow
of_others tx rows = filter (λ row. not (row.0.tx == tx)) rows

-- the stored changes in flight of a server
abbrev pub in_flight_table : Server → Table
in_flight_table server = table_from_rows in_flight_key_spelling in_flight_spelling (in_flight_rows server)

-- Changes in flight, in the order of their keys, which have spellings, at positions from 1 on.
pub record AreInFlight (rows : List InFlightRow) : Type 0 where
  pub rise : IsRising in_flight_key_spelling rows
  pub fit : AllByRecursion (λ row. IsInFlightKey row.0 × (0 < row.0.pos)) rows

-- the changes in flight of a sound log are such
abbrev pub InFlightRowsStand : Type 0
InFlightRowsStand = (server : Server) → LogIsSound server → AreInFlight (in_flight_rows server)

-- ---- one more record

-- a change is a row that is put at its transaction and its position
abbrev pub ChangeIsInFlight : Type 0
ChangeIsInFlight = (server : Server) (tx : ℕ) (change : Change) → LogIsSound server → Is32 tx
    → in_flight_table (with_more (records.Change tx change ∷ []) server)
    ≡ set_key (in_flight_table server) (in_flight_key_spelling (record { tx = tx; pos = length server.log + 1 })) (Some (in_flight_spelling (record {})))

-- the end of a transaction leaves the rows of the others
abbrev pub EndLeavesOthers : Type 0
EndLeavesOthers = (server : Server) (tx : ℕ) (r : LogRecord) → IsTrue (ends tx r)
    → in_flight_rows (with_more (r ∷ []) server) ≡ of_others tx (in_flight_rows server)

-- ---- the changes of one transaction

-- the rows of a transaction are those whose keys begin with its number
abbrev pub TransactionIsPrefix : Type 0
TransactionIsPrefix = (tx : ℕ) (rows : List InFlightRow) → Is32 tx → AreInFlight rows → with_prefix in_flight_key_spelling (b32 tx) rows ≡ of_transaction tx rows

-- they come after the transaction's position 0
abbrev pub TransactionStarts : Type 0
TransactionStarts = (tx : ℕ) (rows : List InFlightRow) → Is32 tx → AreInFlight rows
    → AllAfter in_flight_key_spelling (in_flight_key_spelling (record { tx = tx; pos = 0 })) (of_transaction tx rows)

-- the rows of a transaction are its open changes, in order
abbrev pub OpenChangesAreRows : Type 0
OpenChangesAreRows = (server : Server) (tx : ℕ) → of_transaction tx (in_flight_rows server) ≡ map (in_flight_row tx) (open_changes tx server.log)

-- so they have the positions of its open changes
abbrev pub OpenPositionsAreRows : Type 0
OpenPositionsAreRows = (server : Server) (tx : ℕ)
    → map (λ row. row.0.pos) (of_transaction tx (in_flight_rows server)) ≡ map (λ placed. placed.pos) (open_changes tx server.log)

-- the log has a transaction's change at the position of each of its open changes
abbrev pub OpenChangesAreLogged : Type 0
OpenChangesAreLogged = (server : Server) (tx : ℕ)
    → AllByRecursion (λ placed. HasRow (log_rows server) (placed.pos, records.Change tx placed.change)) (open_changes tx server.log)

-- and so has the stored log
abbrev pub OpenChangesAreStored : Type 0
OpenChangesAreStored = (server : Server) (tx : ℕ) → length server.log ≤ log_limit
    → AllByRecursion (λ placed. log_table server (b64 placed.pos) ≡ Some (log_spelling (records.Change tx placed.change))) (open_changes tx server.log)
