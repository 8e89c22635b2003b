-- Proofs that each key has one spelling, that byte order of spellings is the order of keys, and how long
-- they are. There is nothing to believe here.
use Rattle.std.proofs.Common.{◌≡◌, ℕ, length, refl, ap, arith, nat_cmp}
use Rattle.repl_types.specs.Sequence.{sequence_cmp}
use Rattle.repl_types.specs.Sizes.{IsKeySize}
use Rattle.repl_types.specs.declared.sequence.Sequence.{Sequence}
use Rattle.repl_records.specs.declared.record_keys.Single.{Single}
use Rattle.repl_records.specs.declared.record_keys.InFlightKey.{InFlightKey}
use Rattle.repl_records.specs.declared.record_keys.CdKey.{CdKey}
use Rattle.repl_records.specs.declared.record_keys.UnitKey.{UnitKey}
use Rattle.repl_records.specs.declared.record_keys.MemberKey.{MemberKey}
use Rattle.repl_records.specs.RecordKeys.{single_spelling, single_cmp, in_flight_key_spelling, IsInFlightKey, in_flight_key_cmp, change_key_spelling, IsChangeKey, change_key_cmp, unit_key_spelling, IsUnitKey, unit_key_cmp, member_key_spelling, IsMemberKey, member_key_cmp}
use Rattle.row_codec.specs.Order.{Ordered}
use Rattle.row_codec.specs.Spelling.{Any, Is32, Is64, IsSequence, b16, b32, b64, sequence_spelling}
use Rattle.row_codec.specs.Takes.{One, PairFits, pair_spelling}
use Rattle.row_codec.specs.laws.Names.{one_sequence}
use Rattle.row_codec.specs.laws.Numbers.{one32, one64}
use Rattle.row_codec.specs.laws.Ones.{one_by, one_pair}
use Rattle.row_codec.specs.laws.Orders.{order32, order64, order_pair, order_sequence}
use Rattle.row_codec.specs.laws.Sizes.{key_size}

-- the key of a table that has one record
pub one_single : One Any single_spelling
one_single x y a b fx fy e = (refl, cc)

-- which are equal
pub order_single : Ordered Any single_spelling single_cmp
order_single x y a b fx fy = refl

-- changes in flight
pub one_in_flight_key : One IsInFlightKey in_flight_key_spelling
one_in_flight_key = one_by (PairFits Is32 Is64) (pair_spelling b32 b64) IsInFlightKey (λ k. (k.tx, k.pos)) (λ x y e. ap (λ (p : ℕ × ℕ). record { tx = p.0; pos = p.1 }) e) (λ _ fits. fits) (one_pair _ _ _ _ one32 one64)

-- changes in flight by transaction and position
pub order_in_flight_key : Ordered IsInFlightKey in_flight_key_spelling in_flight_key_cmp
order_in_flight_key x y = order_pair Is32 Is64 b32 b64 nat_cmp nat_cmp order32 order64 (x.tx, x.pos) (y.tx, y.pos)

-- change rows
pub one_change_key : One IsChangeKey change_key_spelling
one_change_key = one_by (PairFits Is64 IsSequence) (pair_spelling b64 sequence_spelling) IsChangeKey (λ k. (k.commitseq, k.intentseq)) (λ x y e. ap (λ (p : ℕ × Sequence). record { commitseq = p.0; intentseq = p.1 }) e) (λ _ fits. fits) (one_pair _ _ _ _ one64 one_sequence)

-- change rows by unit and place
pub order_change_key : Ordered IsChangeKey change_key_spelling change_key_cmp
order_change_key x y = order_pair Is64 IsSequence b64 sequence_spelling nat_cmp sequence_cmp order64 order_sequence (x.commitseq, x.intentseq) (y.commitseq, y.intentseq)

-- decided units
pub one_unit_key : One IsUnitKey unit_key_spelling
one_unit_key = one_by (PairFits Is32 Is64) (pair_spelling b32 b64) IsUnitKey (λ k. (k.set, k.seq)) (λ x y e. ap (λ (p : ℕ × ℕ). record { set = p.0; seq = p.1 }) e) (λ _ fits. fits) (one_pair _ _ _ _ one32 one64)

-- decided units by set and seq
pub order_unit_key : Ordered IsUnitKey unit_key_spelling unit_key_cmp
order_unit_key x y = order_pair Is32 Is64 b32 b64 nat_cmp nat_cmp order32 order64 (x.set, x.seq) (y.set, y.seq)

-- members of sets
pub one_member_key : One IsMemberKey member_key_spelling
one_member_key = one_by (PairFits Is32 Is32) (pair_spelling b32 b32) IsMemberKey (λ k. (k.set, k.member)) (λ x y e. ap (λ (p : ℕ × ℕ). record { set = p.0; member = p.1 }) e) (λ _ fits. fits) (one_pair _ _ _ _ one32 one32)

-- members by set and place
pub order_member_key : Ordered IsMemberKey member_key_spelling member_key_cmp
order_member_key x y = order_pair Is32 Is32 b32 b32 nat_cmp nat_cmp order32 order32 (x.set, x.member) (y.set, y.member)

-- the key of a table that has one record takes a byte
pub key_single : (k : Single) → Any k → IsKeySize (single_spelling k)
key_single k fits = key_size (single_spelling k) (omega arith) (omega arith)

-- changes in flight take 12 bytes
pub key_in_flight_key : (k : InFlightKey) → IsInFlightKey k → IsKeySize (in_flight_key_spelling k)
unfolding b32 b64
key_in_flight_key k fits = let taken : length (in_flight_key_spelling k) ≡ 12 = refl in key_size (in_flight_key_spelling k) (omega (arith, taken)) (omega (arith, taken))

-- change rows take 18 bytes
pub key_change_key : (k : CdKey) → IsChangeKey k → IsKeySize (change_key_spelling k)
unfolding b16 b64
key_change_key k fits = let taken : length (change_key_spelling k) ≡ 18 = refl in key_size (change_key_spelling k) (omega (arith, taken)) (omega (arith, taken))

-- decided units take 12 bytes
pub key_unit_key : (k : UnitKey) → IsUnitKey k → IsKeySize (unit_key_spelling k)
unfolding b32 b64
key_unit_key k fits = let taken : length (unit_key_spelling k) ≡ 12 = refl in key_size (unit_key_spelling k) (omega (arith, taken)) (omega (arith, taken))

-- members take 8 bytes
pub key_member_key : (k : MemberKey) → IsMemberKey k → IsKeySize (member_key_spelling k)
unfolding b32
key_member_key k fits = let taken : length (member_key_spelling k) ≡ 8 = refl in key_size (member_key_spelling k) (omega (arith, taken)) (omega (arith, taken))
