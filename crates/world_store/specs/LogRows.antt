-- The rows of the areas Log, Source, Inflight and Head, in the order of their keys.
use Rattle.std.specs.Prelude.{ℕ, List, [], ◌∷◌, length, map, filter, Option, Some, None}
use Rattle.std.specs.List.{filter_map}
use Rattle.std.specs.FinMap.{entries}
use Rattle.repl_types.specs.Value.{Values}
use Rattle.repl_types.specs.declared.record.LogRecord.{LogRecord}
use Rattle.repl_types.specs.declared.record.LogRecord.TheVariants as records
use Rattle.repl_types.specs.declared.table.TableDef.{TableDef}
use Rattle.repl_records.specs.declared.record_keys.Single.{Single}
use Rattle.repl_records.specs.declared.record_keys.InFlightKey.{InFlightKey}
use Rattle.repl_records.specs.declared.source_side.SourceRow.{SourceRow}
use Rattle.repl_records.specs.declared.source_side.InFlight.{InFlight}
use Rattle.repl_records.specs.declared.source_side.Head.{Head}
use Rattle.repl_records.specs.RecordKeys.{in_flight_key_cmp}
use Rattle.repl_model.specs.Units.{At, positions, units, last_commit, last_time}
use Rattle.repl_model.specs.SourceAt.{source_at}
use Rattle.repl_model.specs.Summaries.{by_key}
use Rattle.repl_model.specs.World.{Server, is_open_at}

-- the log: each record under its position
abbrev pub log_rows : Server → List (ℕ × LogRecord)
log_rows server = positions server.log

-- a table of the source, as it is at the last commit: each row under its key
abbrev pub source_rows : Server → TableDef → List (Values × SourceRow)
source_rows server def = map (λ r. (r.0, record { row = r.1 })) (entries (source_at def server.log (last_commit server.log)))

-- the key of a change in flight, if the record is a change
abbrev pub in_flight_key : At → Option InFlightKey
in_flight_key (pos, records.Change tx change) = Some (record { tx = tx; pos = pos })
in_flight_key (pos, records.Commit tx time authid origin) = None
in_flight_key (pos, records.Abort tx) = None

-- the changes in flight at the end of the log: a record that says nothing, under the transaction and the
-- position of each
abbrev pub in_flight_rows : Server → List (InFlightKey × InFlight)
in_flight_rows server = by_key in_flight_key_cmp (map (λ key. (key, record {})) (filter_map in_flight_key (filter (is_open_at server.log (length server.log)) (positions server.log))))

-- the end of the log
abbrev pub head_of : Server → Head
head_of server = record { last = length server.log; commit = last_commit server.log; time = last_time (units server.log) }

-- its one row
abbrev pub head_rows : Server → List (Single × Head)
head_rows server = (record {}, head_of server) ∷ []
