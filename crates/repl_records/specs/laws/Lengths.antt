-- How many bytes rows with other parts take.
use Rattle.std.proofs.Common.{◌≡◌, ℕ, ◌≤◌, length, ◌++◌, refl, arith, length-append}
use Rattle.repl_types.specs.Sizes.{row_limit}
use Rattle.repl_types.specs.Value.{Values}
use Rattle.repl_types.specs.declared.change_row.Op.{Op}
use Rattle.repl_types.specs.declared.change_row.Op.TheVariants.{I, U, D}
use Rattle.repl_types.specs.declared.sequence.Sequence.{Sequence}
use Rattle.row_codec.specs.Storable.{IsStorable}
use Rattle.repl_records.specs.declared.capture.ChangeRow.{ChangeRow}
use Rattle.repl_records.specs.declared.source_side.SourceRow.{SourceRow}
use Rattle.repl_records.specs.declared.target_side.AggregateRow.{AggregateRow}
use Rattle.repl_records.specs.declared.target_side.CopyRow.{CopyRow}
use Rattle.repl_records.specs.declared.target_side.HistoryRow.{HistoryRow}
use Rattle.repl_records.specs.declared.target_side.LatestRow.{LatestRow}
use Rattle.repl_records.specs.declared.target_side.PointRow.{PointRow}
use Rattle.repl_records.specs.Capture.{change_row_spelling, IsChangeRow, HasChangeRowSpelling}
use Rattle.repl_records.specs.SourceSide.{source_row_spelling, IsSourceRow, HasSourceRowSpelling}
use Rattle.repl_records.specs.TargetSide.{copy_spelling, IsCopy, HasCopySpelling, point_spelling, IsPoint, HasPointSpelling, aggregate_spelling, IsAggregate, HasAggregateSpelling, recorded_spelling, history_spelling, IsHistory, HasHistorySpelling, latest_spelling, IsLatest, HasLatestSpelling}
use Rattle.row_codec.specs.Spelling.{IsRow, b16, b64, op_spelling, row_spelling, sequence_spelling}
use Rattle.row_codec.specs.laws.Lengths.{row_length}
use Rattle.row_codec.specs.laws.Numbers.{length16, length64}

-- an operation takes a byte
pub length_op : (op : Op) → length (op_spelling op) ≡ 1
length_op I = refl
length_op U = refl
length_op D = refl

-- a change and the row that it left take 27 bytes more than the row
pub length_recorded : (s : Sequence) (op : Op) (commitseq time : ℕ) (row : Values) → IsRow row → length row ≤ row_limit → length (recorded_spelling s op commitseq time row) ≤ 128221
length_recorded s op commitseq time row fits short = omega (arith, length-append (sequence_spelling s ++ op_spelling op ++ b64 commitseq ++ b64 time) (row_spelling row), length-append (sequence_spelling s ++ op_spelling op ++ b64 commitseq) (b64 time), length-append (sequence_spelling s ++ op_spelling op) (b64 commitseq), length-append (sequence_spelling s) (op_spelling op), length-append (b64 s.position) (b16 s.sub), length64 s.position, length16 s.sub, length_op op, length64 commitseq, length64 time, row_length row fits.1 short)

-- the stored row of a source with at most 64 values has the size of a value
pub source_storable : (r : SourceRow) → IsSourceRow r → length r.row ≤ row_limit → IsStorable HasSourceRowSpelling source_row_spelling r
source_storable r fits short = (fits.0, omega (arith, row_length r.row fits.1 short))

-- so has a change row whose images have at most 64 values
pub change_storable : (r : ChangeRow) → IsChangeRow r → length r.after ≤ row_limit → length r.before ≤ row_limit → IsStorable HasChangeRowSpelling change_row_spelling r
change_storable r fits short_after short_before = ((fits.0.0, fits.1.0), omega (arith, length-append (op_spelling r.op ++ row_spelling r.after) (row_spelling r.before), length-append (op_spelling r.op) (row_spelling r.after), length_op r.op, row_length r.after fits.0.1 short_after, row_length r.before fits.1.1 short_before))

-- so has the row of a user copy
pub copy_storable : (r : CopyRow) → IsCopy r → length r.row ≤ row_limit → IsStorable HasCopySpelling copy_spelling r
copy_storable r fits short = (fits.0, omega (arith, row_length r.row fits.1 short))

-- that of a point-in-time copy
pub point_storable : (r : PointRow) → IsPoint r → length r.row ≤ row_limit → IsStorable HasPointSpelling point_spelling r
point_storable r fits short = (fits.1.0, omega (arith, length-append (b64 r.marker) (row_spelling r.row), length64 r.marker, row_length r.row fits.1.1 short))

-- that of an aggregate
pub aggregate_storable : (r : AggregateRow) → IsAggregate r → length r.row ≤ row_limit → IsStorable HasAggregateSpelling aggregate_spelling r
aggregate_storable r fits short = (fits.2.0, omega (arith, length-append (b64 r.low ++ b64 r.high) (row_spelling r.row), length-append (b64 r.low) (b64 r.high), length64 r.low, length64 r.high, row_length r.row fits.2.1 short))

-- that of a whole history
pub history_storable : (r : HistoryRow) → IsHistory r → length r.row ≤ row_limit → IsStorable HasHistorySpelling history_spelling r
history_storable r fits short = (fits.3.0, omega (arith, length_recorded r.intentseq r.op r.commitseq r.time r.row fits.3 short))

-- and that of a history of the latest changes
pub latest_storable : (r : LatestRow) → IsLatest r → length r.row ≤ row_limit → IsStorable HasLatestSpelling latest_spelling r
latest_storable r fits short = (fits.3.0, omega (arith, length_recorded r.intentseq r.op r.commitseq r.time r.row fits.3 short))
