-- Proofs about the spellings of what capture keeps. There is nothing to believe here.
use Rattle.std.proofs.Common.{◌≡◌, ℕ, Bool, List, length, ◌++◌, Option, refl, ap, arith, length-append}
use Rattle.repl_types.specs.Sizes.{IsValueSize}
use Rattle.repl_types.specs.declared.change_row.Op.{Op}
use Rattle.repl_types.specs.declared.record.SetId.{SetId}
use Rattle.repl_types.specs.declared.value.Value.{Value}
use Rattle.repl_records.specs.declared.capture.ChangeRow.{ChangeRow}
use Rattle.repl_records.specs.declared.capture.UowRow.{UowRow}
use Rattle.repl_records.specs.declared.capture.CaptureState.{CaptureState}
use Rattle.repl_records.specs.declared.capture.RegState.{RegState}
use Rattle.repl_records.specs.Capture.{change_row_spelling, IsChangeRow, HasChangeRowSpelling, IsCode, uow_spelling, IsUow, HasUowSpelling, capture_spelling, IsCapture, registration_state_spelling, IsRegistrationState}
use Rattle.repl_records.specs.laws.Numbers.{one_three_numbers}
use Rattle.row_codec.specs.Spelling.{Any, b8, b64, flag, short_text, origin}
use Rattle.row_codec.specs.Takes.{One}
use Rattle.row_codec.specs.laws.Names.{one_name, one_op, one_origin}
use Rattle.row_codec.specs.laws.Numbers.{length64, one64, one_flag}
use Rattle.row_codec.specs.laws.Ones.{one_by, one_pair}
use Rattle.row_codec.specs.laws.Sizes.{name_length, origin_length, length_flag}
use Rattle.row_codec.specs.laws.Values.{one_row}

-- change rows
pub one_change_row : One IsChangeRow change_row_spelling
one_change_row = one_by _ _ IsChangeRow (λ r. ((r.op, r.after), r.before)) (λ x y e. ap (λ (p : (Op × List Value) × List Value). record { op = p.0.0; after = p.0.1; before = p.1 }) e) (λ _ fits. ((tt, fits.0), fits.1)) (one_pair _ _ _ _ (one_pair _ _ _ _ one_op one_row) one_row)

-- what is taken has a spelling
pub again_change_row : (r : ChangeRow) → IsChangeRow r → HasChangeRowSpelling r
again_change_row r fits = (fits.0.0, fits.1.0)

-- rejection codes
pub one_code : One IsCode b8
one_code x y a b fx fy e = (cc, cc)

-- captured units
pub one_uow : One IsUow uow_spelling
one_uow = one_by _ _ IsUow (λ r. (((r.time, r.authid), r.origin), r.code)) (λ x y e. ap (λ (p : ((ℕ × List ℕ) × Option SetId) × ℕ). record { time = p.0.0.0; authid = p.0.0.1; origin = p.0.1; code = p.1 }) e) (λ _ fits. (((fits.0, fits.1), fits.2), fits.3)) (one_pair _ _ _ _ (one_pair _ _ _ _ (one_pair _ _ _ _ one64 one_name) one_origin) one_code)

-- what is taken has a spelling
pub again_uow : (r : UowRow) → IsUow r → HasUowSpelling r
again_uow r fits = fits.3

-- they take at most 109 bytes
pub small_uow : (r : UowRow) → IsUow r → HasUowSpelling r → IsValueSize (uow_spelling r)
small_uow r fits asked = omega (arith, length-append (b64 r.time ++ short_text r.authid ++ origin r.origin) (b8 r.code), length-append (b64 r.time ++ short_text r.authid) (origin r.origin), length-append (b64 r.time) (short_text r.authid), length64 r.time, name_length r.authid fits.1, origin_length r.origin fits.2)

-- states of capture
pub one_capture : One IsCapture capture_spelling
one_capture = one_by _ _ IsCapture (λ r. ((r.captured, r.restart), r.floor)) (λ x y e. ap (λ (p : (ℕ × ℕ) × ℕ). record { captured = p.0.0; restart = p.0.1; floor = p.1 }) e) (λ _ fits. ((fits.0, fits.1), fits.2)) one_three_numbers

-- they take 24 bytes
pub small_capture : (r : CaptureState) → IsCapture r → Any r → IsValueSize (capture_spelling r)
unfolding b64
small_capture r fits asked = let taken : length (capture_spelling r) ≡ 24 = refl in omega (arith, taken)

-- states of registrations
pub one_registration_state : One IsRegistrationState registration_state_spelling
one_registration_state = one_by _ _ IsRegistrationState (λ r. ((r.active, r.start), r.floor)) (λ x y e. ap (λ (p : (Bool × ℕ) × ℕ). record { active = p.0.0; start = p.0.1; floor = p.1 }) e) (λ _ fits. ((tt, fits.0), fits.1)) (one_pair _ _ _ _ (one_pair _ _ _ _ one_flag one64) one64)

-- they take 17 bytes
pub small_registration_state : (r : RegState) → IsRegistrationState r → Any r → IsValueSize (registration_state_spelling r)
small_registration_state r fits asked = omega (arith, length-append (flag r.active ++ b64 r.start) (b64 r.floor), length-append (flag r.active) (b64 r.start), length_flag r.active, length64 r.start, length64 r.floor)
