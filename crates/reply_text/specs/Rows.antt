-- The lines of rows that are shown.
use Rattle.std.specs.Prelude.{ℕ, codes, List, [], ◌∷◌, ◌++◌, map, Option, Some, None, decimal}
use Rattle.repl_types.specs.Value.{Values}
use Rattle.repl_types.specs.ValueText.{value_text}
use Rattle.repl_types.specs.Sequence.{sequence_text}
use Rattle.repl_types.specs.declared.change_row.CdRow.{CdRow}
use Rattle.repl_types.specs.declared.change_row.Op.{Op}
use Rattle.repl_types.specs.declared.change_row.Op.TheVariants as ops
use Rattle.repl_types.specs.declared.record.LogRecord.{LogRecord}
use Rattle.repl_types.specs.declared.record.SetId.{SetId}
use Rattle.repl_types.specs.declared.sequence.Sequence.{Sequence}
use Rattle.repl_types.specs.declared.unit.UnitHead.{UnitHead}
use Rattle.repl_records.specs.declared.prune.RejectedUnit.{RejectedUnit}
use Rattle.repl_records.specs.declared.target_side.PointRow.{PointRow}
use Rattle.repl_records.specs.declared.target_side.AggregateRow.{AggregateRow}
use Rattle.repl_records.specs.declared.target_side.HistoryRow.{HistoryRow}
use Rattle.repl_records.specs.declared.target_side.LatestRow.{LatestRow}
use Rattle.log_text.specs.RecordText.{record_text}
use Rattle.reply_text.specs.Lines.{whole_line, position_text, set_text}

-- the letter of an operation
abbrev pub op_text : Op → List ℕ
op_text ops.I = codes "I"
op_text ops.U = codes "U"
op_text ops.D = codes "D"

-- ---- source tables and user copies

-- the line of a row
abbrev pub row_line : Values → List ℕ
row_line row = whole_line (codes "row" ∷ map value_text row)

-- ---- what a source keeps

-- the before-images, if there are any
abbrev pub before_parts : Values → List (List ℕ)
before_parts [] = []
before_parts (value ∷ values) = codes "before" ∷ map value_text (value ∷ values)

-- the line of a change row
abbrev pub change_row_line : CdRow → List ℕ
change_row_line row = whole_line (codes "row" ∷ position_text row.commitseq ∷ sequence_text row.intentseq ∷ op_text row.op ∷ map value_text row.after ++ before_parts row.before)

-- the set that made a unit, or `-` if none did
abbrev pub origin_text : Option SetId → List ℕ
origin_text None = codes "-"
origin_text (Some set) = set_text set

-- the line of a captured unit
abbrev pub unit_line : UnitHead → List ℕ
unit_line unit = whole_line (codes "row" ∷ position_text unit.seq ∷ decimal unit.time ∷ unit.authid ∷ origin_text unit.origin ∷ decimal unit.code ∷ [])

-- the line of a log record at its position
abbrev pub log_line : ℕ → LogRecord → List ℕ
log_line position entry = whole_line (codes "row" ∷ position_text position ∷ record_text entry ∷ [])

-- the line of a rejected unit by its seq
abbrev pub rejected_line : ℕ → RejectedUnit → List ℕ
rejected_line seq unit = whole_line (codes "row" ∷ position_text seq ∷ decimal unit.code ∷ [])

-- ---- targets

-- the line of a row of a point-in-time copy
abbrev pub point_row_line : PointRow → List ℕ
point_row_line r = whole_line (codes "row" ∷ decimal r.marker ∷ map value_text r.row)

-- the line of a row of an aggregate
abbrev pub aggregate_row_line : AggregateRow → List ℕ
aggregate_row_line r = whole_line (codes "row" ∷ decimal r.low ∷ decimal r.high ∷ map value_text r.row)

-- the line of a change and of the row that it left: its place in the log, operation, unit and time, and the
-- values
abbrev pub recorded_line : Sequence → Op → ℕ → ℕ → Values → List ℕ
recorded_line intentseq op commitseq time row = whole_line (codes "row" ∷ sequence_text intentseq ∷ op_text op ∷ position_text commitseq ∷ decimal time ∷ map value_text row)

-- the line of a row of a table that keeps every change
abbrev pub history_row_line : HistoryRow → List ℕ
history_row_line r = recorded_line r.intentseq r.op r.commitseq r.time r.row

-- the line of a row that keeps the latest change of its key
abbrev pub latest_row_line : LatestRow → List ℕ
latest_row_line r = recorded_line r.intentseq r.op r.commitseq r.time r.row
