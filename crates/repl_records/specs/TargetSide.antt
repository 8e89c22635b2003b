-- The spellings of the rows of targets.
use Rattle.std.specs.Prelude.{ℕ, List, ◌++◌}
use Rattle.repl_records.specs.declared.target_side.CopyRow.{CopyRow}
use Rattle.repl_records.specs.declared.target_side.PointRow.{PointRow}
use Rattle.repl_records.specs.declared.target_side.AggregateRow.{AggregateRow}
use Rattle.repl_records.specs.declared.target_side.HistoryRow.{HistoryRow}
use Rattle.repl_records.specs.declared.target_side.LatestRow.{LatestRow}
use Rattle.repl_types.specs.Value.{Values}
use Rattle.repl_types.specs.declared.change_row.Op.{Op}
use Rattle.repl_types.specs.declared.sequence.Sequence.{Sequence}
use Rattle.row_codec.specs.Spelling.{Is64, IsCounted, IsRow, IsSequence, b64, op_spelling, row_spelling, sequence_spelling}

-- a row of a user copy
abbrev pub copy_spelling : CopyRow → List ℕ
copy_spelling r = row_spelling r.row

-- rows of user copies that have a spelling
abbrev pub IsCopy : CopyRow → Type 0
IsCopy r = IsRow r.row

-- rows of user copies whose count has two bytes
abbrev pub HasCopySpelling : CopyRow → Type 0
HasCopySpelling r = IsCounted r.row

-- a row of a point-in-time copy: its marker and its values
abbrev pub point_spelling : PointRow → List ℕ
point_spelling r = b64 r.marker ++ row_spelling r.row

-- rows of point-in-time copies whose marker has eight bytes and whose values have a spelling
abbrev pub IsPoint : PointRow → Type 0
IsPoint r = Is64 r.marker × IsRow r.row

-- rows of point-in-time copies whose count has two bytes
abbrev pub HasPointSpelling : PointRow → Type 0
HasPointSpelling r = IsCounted r.row

-- a row of an aggregate: its bounds and its values
abbrev pub aggregate_spelling : AggregateRow → List ℕ
aggregate_spelling r = b64 r.low ++ b64 r.high ++ row_spelling r.row

-- rows of aggregates whose bounds have eight bytes and whose values have a spelling
abbrev pub IsAggregate : AggregateRow → Type 0
IsAggregate r = Is64 r.low × Is64 r.high × IsRow r.row

-- rows of aggregates whose count has two bytes
abbrev pub HasAggregateSpelling : AggregateRow → Type 0
HasAggregateSpelling r = IsCounted r.row

-- a change and the row that it left: its place in the log, operation, unit and time, and the values
abbrev pub recorded_spelling : Sequence → Op → ℕ → ℕ → Values → List ℕ
recorded_spelling intentseq op commitseq time row = sequence_spelling intentseq ++ op_spelling op ++ b64 commitseq ++ b64 time ++ row_spelling row

-- changes whose numbers fit in their bytes, with rows that have a spelling
abbrev pub IsRecorded : Sequence → ℕ → ℕ → Values → Type 0
IsRecorded intentseq commitseq time row = IsSequence intentseq × Is64 commitseq × Is64 time × IsRow row

-- a row of a table that keeps every change
abbrev pub history_spelling : HistoryRow → List ℕ
history_spelling r = recorded_spelling r.intentseq r.op r.commitseq r.time r.row

-- rows of tables that keep every change whose numbers fit in their bytes and whose values have a spelling
abbrev pub IsHistory : HistoryRow → Type 0
IsHistory r = IsRecorded r.intentseq r.commitseq r.time r.row

-- rows of tables that keep every change whose count has two bytes
abbrev pub HasHistorySpelling : HistoryRow → Type 0
HasHistorySpelling r = IsCounted r.row

-- a row that keeps the latest change of its key
abbrev pub latest_spelling : LatestRow → List ℕ
latest_spelling r = recorded_spelling r.intentseq r.op r.commitseq r.time r.row

-- rows that keep the latest change of their key whose numbers fit in their bytes and whose values have a spelling
abbrev pub IsLatest : LatestRow → Type 0
IsLatest r = IsRecorded r.intentseq r.commitseq r.time r.row

-- rows that keep the latest change of their key whose count has two bytes
abbrev pub HasLatestSpelling : LatestRow → Type 0
HasLatestSpelling r = IsCounted r.row
