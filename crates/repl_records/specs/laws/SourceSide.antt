-- Proofs about the spellings of the records of a source. There is nothing to believe here.
use Rattle.std.proofs.Common.{◌≡◌, ℕ, List, length, refl, ap, arith}
use Rattle.repl_types.specs.Sizes.{IsValueSize}
use Rattle.repl_types.specs.declared.value.Value.{Value}
use Rattle.repl_records.specs.declared.source_side.SourceRow.{SourceRow}
use Rattle.repl_records.specs.declared.source_side.InFlight.{InFlight}
use Rattle.repl_records.specs.declared.source_side.Head.{Head}
use Rattle.repl_records.specs.SourceSide.{source_row_spelling, IsSourceRow, HasSourceRowSpelling, in_flight_spelling, head_spelling, IsHead}
use Rattle.repl_records.specs.laws.Numbers.{one_three_numbers}
use Rattle.row_codec.specs.Spelling.{Any, IsRow, b64, row_spelling}
use Rattle.row_codec.specs.Takes.{One}
use Rattle.row_codec.specs.laws.Ones.{one_by}
use Rattle.row_codec.specs.laws.Values.{one_row}

-- rows of source tables
pub one_source_row : One IsSourceRow source_row_spelling
one_source_row = one_by IsRow row_spelling IsSourceRow (λ r. r.row) (λ x y e. ap (λ (p : List Value). record { row = p }) e) (λ _ fits. fits) one_row

-- what is taken has a spelling
pub again_source_row : (r : SourceRow) → IsSourceRow r → HasSourceRowSpelling r
again_source_row r fits = fits.0

-- changes in flight
pub one_in_flight : One Any in_flight_spelling
one_in_flight x y a b fx fy e = (refl, cc)

-- they take a byte
pub small_in_flight : (r : InFlight) → Any r → Any r → IsValueSize (in_flight_spelling r)
small_in_flight r fits asked = omega arith

-- ends of logs
pub one_head : One IsHead head_spelling
one_head = one_by _ _ IsHead (λ r. ((r.last, r.commit), r.time)) (λ x y e. ap (λ (p : (ℕ × ℕ) × ℕ). record { last = p.0.0; commit = p.0.1; time = p.1 }) e) (λ _ fits. ((fits.0, fits.1), fits.2)) one_three_numbers

-- they take 24 bytes
pub small_head : (r : Head) → IsHead r → Any r → IsValueSize (head_spelling r)
unfolding b64
small_head r fits asked = let taken : length (head_spelling r) ≡ 24 = refl in omega (arith, taken)
