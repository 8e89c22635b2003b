-- Proofs about the spellings of the rows of targets. There is nothing to believe here.
use Rattle.std.proofs.Common.{ℕ, List, ap}
use Rattle.repl_types.specs.declared.change_row.Op.{Op}
use Rattle.repl_types.specs.declared.sequence.Sequence.{Sequence}
use Rattle.repl_types.specs.declared.value.Value.{Value}
use Rattle.repl_records.specs.declared.target_side.CopyRow.{CopyRow}
use Rattle.repl_records.specs.declared.target_side.PointRow.{PointRow}
use Rattle.repl_records.specs.declared.target_side.AggregateRow.{AggregateRow}
use Rattle.repl_records.specs.declared.target_side.HistoryRow.{HistoryRow}
use Rattle.repl_records.specs.declared.target_side.LatestRow.{LatestRow}
use Rattle.repl_records.specs.TargetSide.{copy_spelling, IsCopy, HasCopySpelling, point_spelling, IsPoint, HasPointSpelling, aggregate_spelling, IsAggregate, HasAggregateSpelling, history_spelling, IsHistory, HasHistorySpelling, latest_spelling, IsLatest, HasLatestSpelling}
use Rattle.repl_records.specs.laws.Numbers.{one_two_numbers}
use Rattle.row_codec.specs.Spelling.{Any, Is64, IsRow, IsSequence, b64, op_spelling, row_spelling, sequence_spelling}
use Rattle.row_codec.specs.Takes.{One, PairFits, pair_spelling}
use Rattle.row_codec.specs.laws.Names.{one_op, one_sequence}
use Rattle.row_codec.specs.laws.Numbers.{one64}
use Rattle.row_codec.specs.laws.Ones.{one_by, one_pair}
use Rattle.row_codec.specs.laws.Values.{one_row}

-- rows of user copies
pub one_copy : One IsCopy copy_spelling
one_copy = one_by IsRow row_spelling IsCopy (λ r. r.row) (λ x y e. ap (λ (p : List Value). record { row = p }) e) (λ _ fits. fits) one_row

-- what is taken has a spelling
pub again_copy : (r : CopyRow) → IsCopy r → HasCopySpelling r
again_copy r fits = fits.0

-- rows of point-in-time copies
pub one_point : One IsPoint point_spelling
one_point = one_by _ _ IsPoint (λ r. (r.marker, r.row)) (λ x y e. ap (λ (p : ℕ × List Value). record { marker = p.0; row = p.1 }) e) (λ _ fits. fits) (one_pair _ _ _ _ one64 one_row)

-- what is taken has a spelling
pub again_point : (r : PointRow) → IsPoint r → HasPointSpelling r
again_point r fits = fits.1.0

-- rows of aggregates
pub one_aggregate : One IsAggregate aggregate_spelling
one_aggregate = one_by _ _ IsAggregate (λ r. ((r.low, r.high), r.row)) (λ x y e. ap (λ (p : (ℕ × ℕ) × List Value). record { low = p.0.0; high = p.0.1; row = p.1 }) e) (λ _ fits. ((fits.0, fits.1), fits.2)) (one_pair _ _ _ _ one_two_numbers one_row)

-- what is taken has a spelling
pub again_aggregate : (r : AggregateRow) → IsAggregate r → HasAggregateSpelling r
again_aggregate r fits = fits.2.0

-- the parts of a row that records a change
abbrev pub Recorded : Type 0
Recorded = (((Sequence × Op) × ℕ) × ℕ) × List Value

-- what these parts have to meet
abbrev pub AreRecorded : Recorded → Type 0
AreRecorded = PairFits (PairFits (PairFits (PairFits IsSequence Any) Is64) Is64) IsRow

-- one part after the other
abbrev pub parts_spelling : Recorded → List ℕ
parts_spelling = pair_spelling (pair_spelling (pair_spelling (pair_spelling sequence_spelling op_spelling) b64) b64) row_spelling

-- such parts
pub one_recorded : One AreRecorded parts_spelling
one_recorded = one_pair _ _ _ _ (one_pair _ _ _ _ (one_pair _ _ _ _ (one_pair _ _ _ _ one_sequence one_op) one64) one64) one_row

-- rows that keep every change
pub one_history : One IsHistory history_spelling
one_history = one_by AreRecorded parts_spelling IsHistory (λ r. ((((r.intentseq, r.op), r.commitseq), r.time), r.row)) (λ x y e. ap (λ (p : Recorded). record { intentseq = p.0.0.0.0; op = p.0.0.0.1; commitseq = p.0.0.1; time = p.0.1; row = p.1 }) e) (λ _ fits. ((((fits.0, tt), fits.1), fits.2), fits.3)) one_recorded

-- what is taken has a spelling
pub again_history : (r : HistoryRow) → IsHistory r → HasHistorySpelling r
again_history r fits = fits.3.0

-- rows that keep the latest change
pub one_latest : One IsLatest latest_spelling
one_latest = one_by AreRecorded parts_spelling IsLatest (λ r. ((((r.intentseq, r.op), r.commitseq), r.time), r.row)) (λ x y e. ap (λ (p : Recorded). record { intentseq = p.0.0.0.0; op = p.0.0.0.1; commitseq = p.0.0.1; time = p.0.1; row = p.1 }) e) (λ _ fits. ((((fits.0, tt), fits.1), fits.2), fits.3)) one_recorded

-- what is taken has a spelling
pub again_latest : (r : LatestRow) → IsLatest r → HasLatestSpelling r
again_latest r fits = fits.3.0
