-- Proofs about the spellings of what pruning and deciding keep. There is nothing to believe here.
use Rattle.std.proofs.Common.{◌≡◌, ℕ, length, refl, ap, arith}
use Rattle.repl_types.specs.Sizes.{IsValueSize}
use Rattle.repl_records.specs.declared.prune.SyncMark.{SyncMark}
use Rattle.repl_records.specs.declared.prune.Decided.{Decided}
use Rattle.repl_records.specs.declared.prune.RejectedUnit.{RejectedUnit}
use Rattle.repl_records.specs.Capture.{IsCode}
use Rattle.repl_records.specs.Prune.{mark_spelling, IsMark, decided_spelling, IsDecided, rejected_spelling, IsRejected}
use Rattle.repl_records.specs.laws.Capture.{one_code}
use Rattle.repl_records.specs.laws.Numbers.{one_two_numbers}
use Rattle.row_codec.specs.Spelling.{Any, b8, b64}
use Rattle.row_codec.specs.Takes.{One}
use Rattle.row_codec.specs.laws.Ones.{one_by}

-- marks of sets
pub one_mark : One IsMark mark_spelling
one_mark = one_by _ _ IsMark (λ r. (r.mark, r.signal)) (λ x y e. ap (λ (p : ℕ × ℕ). record { mark = p.0; signal = p.1 }) e) (λ _ fits. fits) one_two_numbers

-- they take 16 bytes
pub small_mark : (r : SyncMark) → IsMark r → Any r → IsValueSize (mark_spelling r)
unfolding b64
small_mark r fits asked = let taken : length (mark_spelling r) ≡ 16 = refl in omega (arith, taken)

-- how far masters have decided
pub one_decided : One IsDecided decided_spelling
one_decided = one_by _ _ IsDecided (λ r. (r.t, r.d)) (λ x y e. ap (λ (p : ℕ × ℕ). record { t = p.0; d = p.1 }) e) (λ _ fits. fits) one_two_numbers

-- they take 16 bytes
pub small_decided : (r : Decided) → IsDecided r → Any r → IsValueSize (decided_spelling r)
unfolding b64
small_decided r fits asked = let taken : length (decided_spelling r) ≡ 16 = refl in omega (arith, taken)

-- rejected units
pub one_rejected : One IsRejected rejected_spelling
one_rejected = one_by IsCode b8 IsRejected (λ r. r.code) (λ x y e. ap (λ (p : ℕ). record { code = p }) e) (λ _ fits. fits.1) one_code

-- they take a byte
pub small_rejected : (r : RejectedUnit) → IsRejected r → IsRejected r → IsValueSize (rejected_spelling r)
small_rejected r fits asked = omega arith
