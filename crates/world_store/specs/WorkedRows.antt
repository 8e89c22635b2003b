-- What the worked rows are written with.
use Rattle.std.specs.Prelude.{ℕ, List, [], ◌∷◌, Option, None}
use Rattle.repl_types.specs.Value.{Values}
use Rattle.repl_types.specs.declared.change_row.Op.{Op}
use Rattle.repl_types.specs.declared.record.LogRecord.{LogRecord}
use Rattle.repl_types.specs.declared.record.SetId.{SetId}
use Rattle.repl_records.specs.declared.record_keys.CdKey.{CdKey}
use Rattle.repl_records.specs.declared.record_keys.InFlightKey.{InFlightKey}
use Rattle.repl_records.specs.declared.source_side.InFlight.{InFlight}
use Rattle.repl_records.specs.declared.source_side.SourceRow.{SourceRow}
use Rattle.repl_records.specs.declared.capture.ChangeRow.{ChangeRow}
use Rattle.repl_records.specs.declared.capture.UowRow.{UowRow}
use Rattle.repl_records.specs.declared.target_side.CopyRow.{CopyRow}
use Rattle.repl_model.specs.World.{Server}
use Rattle.repl_model.specs.WorkedCopies.{parts}
use Rattle.repl_model.specs.WorkedWorld.{registered_orders, hq}

-- the source of the worked world, with another log
abbrev pub hq_with_log : List LogRecord → Server
hq_with_log log = record hq { log = log }

-- the same server with a second table, which isn't registered
abbrev pub hq_with_parts : Server
hq_with_parts = record hq { tables = registered_orders ∷ record { def = parts; registered = None } ∷ [] }

-- a row of the source under its key
abbrev pub source_row : Values → Values → Values × SourceRow
source_row key row = (key, record { row = row })

-- a row of a user copy under its key
abbrev pub copy_row : Values → Values → Values × CopyRow
copy_row key row = (key, record { row = row })

-- a change in flight, by its transaction and its position
abbrev pub in_flight : ℕ → ℕ → InFlightKey × InFlight
in_flight tx at = (record { tx = tx; pos = at }, record {})

-- a row of a change-data table, under the seq of its unit and its position
abbrev pub kept_change : ℕ → ℕ → Op → Values → Values → CdKey × ChangeRow
kept_change seq at op after before = (record { commitseq = seq; intentseq = record { position = at; sub = 0 } }, record { op = op; after = after; before = before })

-- a row of the unit-of-work table, under its seq, for which no code is shown
abbrev pub kept_unit : ℕ → ℕ → List ℕ → Option SetId → ℕ × UowRow
kept_unit seq time authid origin = (seq, record { time = time; authid = authid; origin = origin; code = 0 })
