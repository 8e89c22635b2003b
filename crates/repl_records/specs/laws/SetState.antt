-- Proofs about the spellings of how far sets are. There is nothing to believe here.
use Rattle.std.proofs.Common.{◌≡◌, ◌≢◌, ℕ, Bool, List, ◌∷◌, ◌++◌, length, drop, refl, sym, ap, subst, arith, length-append}
use Rattle.repl_types.specs.Sizes.{IsValueSize}
use Rattle.repl_records.specs.declared.set_state.SetState.{SetState}
use Rattle.repl_records.specs.declared.set_state.LastNumber.{LastNumber}
use Rattle.repl_records.specs.declared.set_state.SetState.TheVariants.{ReadOnly, Replica}
use Rattle.repl_records.specs.SetState.{HasNumbers, IsState, ZeroIfAbsent, state_spelling, IsLastNumber, last_number_spelling}
use Rattle.row_codec.specs.Spelling.{Any, Is64, b64, flag}
use Rattle.row_codec.specs.Takes.{One, NoPrefix, PairFits, pair_spelling}
use Rattle.row_codec.specs.laws.Numbers.{length64, one64, one_flag}
use Rattle.row_codec.specs.laws.Ones.{one_by, one_pair}
use Rattle.row_codec.specs.laws.Sizes.{length_flag}
use Rattle.row_codec.specs.laws.Tags.{other_first}

-- the fields of a read-only set's state
abbrev pub ReadOnlyFields : Type 0
ReadOnlyFields = ((((Bool × ℕ) × ℕ) × ℕ) × Bool) × ℕ

-- such fields
pub one_read_only : One {X = ReadOnlyFields} (PairFits (PairFits (PairFits (PairFits (PairFits Any Is64) Is64) Is64) Any) Is64) (pair_spelling (pair_spelling (pair_spelling (pair_spelling (pair_spelling flag b64) b64) b64) flag) b64)
one_read_only = one_pair _ _ _ _ (one_pair _ _ _ _ (one_pair _ _ _ _ (one_pair _ _ _ _ (one_pair _ _ _ _ one_flag one64) one64) one64) one_flag) one64

-- the fields of a replica set's state
abbrev pub ReplicaFields : Type 0
ReplicaFields = (((Bool × ℕ) × ℕ) × ℕ) × ℕ

-- such fields
pub one_replica : One {X = ReplicaFields} (PairFits (PairFits (PairFits (PairFits Any Is64) Is64) Is64) Is64) (pair_spelling (pair_spelling (pair_spelling (pair_spelling flag b64) b64) b64) b64)
one_replica = one_pair _ _ _ _ (one_pair _ _ _ _ (one_pair _ _ _ _ (one_pair _ _ _ _ one_flag one64) one64) one64) one64

-- states of sets, with any numbers in the place of absent points
pub one_of_numbers : One HasNumbers state_spelling
one_of_numbers (ReadOnly h s t o r n) (ReadOnly h' s' t' o' r' n') a b fx fy e =
    let same = one_read_only (((((h, s), t), o), r), n) (((((h', s'), t'), o'), r'), n') a b (((((tt, fx.0), fx.1), fx.2), tt), fx.3) (((((tt, fy.0), fy.1), fy.2), tt), fy.3) (ap (drop 1) e) in
    (ap (λ (p : ReadOnlyFields). ReadOnly p.0.0.0.0.0 p.0.0.0.0.1 p.0.0.0.1 p.0.0.1 p.0.1 p.1) same.0, same.1)
one_of_numbers (ReadOnly h s t o r n) (Replica h' m f g n') a b fx fy e = absurd (other_first 1 2 _ _ (omega arith) e)
one_of_numbers (Replica h m f g n) (ReadOnly h' s t o r n') a b fx fy e = absurd (other_first 2 1 _ _ (omega arith) e)
one_of_numbers (Replica h m f g n) (Replica h' m' f' g' n') a b fx fy e =
    let same = one_replica ((((h, m), f), g), n) ((((h', m'), f'), g'), n') a b ((((tt, fx.0), fx.1), fx.2), fx.3) ((((tt, fy.0), fy.1), fy.2), fy.3) (ap (drop 1) e) in
    (ap (λ (p : ReplicaFields). Replica p.0.0.0.0 p.0.0.0.1 p.0.0.1 p.0.1 p.1) same.0, same.1)

-- states of sets
pub one_state : One IsState state_spelling
one_state x y a b fx fy e = one_of_numbers x y a b fx.0 fy.0 e

-- bytes that begin with other numbers in the place of absent points begin with no state
pub no_other_state : (state : SetState) (after : List ℕ) → HasNumbers state → ¬ (ZeroIfAbsent state) → NoPrefix IsState state_spelling (state_spelling state ++ after)
no_other_state state after numbers other x rest fits e = other (subst ZeroIfAbsent (sym (one_of_numbers state x after rest numbers fits.0 e).0) fits.1)

-- after 0x01 there is the state of a read-only set, or none
pub only_read_only : (bytes : List ℕ) → ((has_points : Bool) (synchpoint time base : ℕ) (refresh : Bool) (entries : ℕ) (rest : List ℕ) → HasNumbers (ReadOnly has_points synchpoint time base refresh entries) → bytes ≢ (flag has_points ++ b64 synchpoint ++ b64 time ++ b64 base ++ flag refresh ++ b64 entries) ++ rest) → NoPrefix HasNumbers state_spelling (0x01 ∷ bytes)
only_read_only bytes none (ReadOnly h s t o r n) rest fits e = none h s t o r n rest fits (ap (drop 1) e)
only_read_only bytes none (Replica h m f g n) rest fits e = other_first 1 2 _ _ (omega arith) e

-- after 0x02 there is the state of a replica set, or none
pub only_replica : (bytes : List ℕ) → ((has_points : Bool) (m f signal entries : ℕ) (rest : List ℕ) → HasNumbers (Replica has_points m f signal entries) → bytes ≢ (flag has_points ++ b64 m ++ b64 f ++ b64 signal ++ b64 entries) ++ rest) → NoPrefix HasNumbers state_spelling (0x02 ∷ bytes)
only_replica bytes none (ReadOnly h s t o r n) rest fits e = other_first 2 1 _ _ (omega arith) e
only_replica bytes none (Replica h m f g n) rest fits e = none h m f g n rest fits (ap (drop 1) e)

-- they take at most 35 bytes
pub small_state : (state : SetState) → IsState state → ZeroIfAbsent state → IsValueSize (state_spelling state)
small_state (ReadOnly h s t o r n) fits asked = omega (arith, length-append (flag h ++ b64 s ++ b64 t ++ b64 o ++ flag r) (b64 n), length-append (flag h ++ b64 s ++ b64 t ++ b64 o) (flag r), length-append (flag h ++ b64 s ++ b64 t) (b64 o), length-append (flag h ++ b64 s) (b64 t), length-append (flag h) (b64 s), length_flag h, length_flag r, length64 s, length64 t, length64 o, length64 n)
small_state (Replica h m f g n) fits asked = omega (arith, length-append (flag h ++ b64 m ++ b64 f ++ b64 g) (b64 n), length-append (flag h ++ b64 m ++ b64 f) (b64 g), length-append (flag h ++ b64 m) (b64 f), length-append (flag h) (b64 m), length_flag h, length64 m, length64 f, length64 g, length64 n)

-- last numbers
pub one_last_number : One IsLastNumber last_number_spelling
one_last_number = one_by Is64 b64 IsLastNumber (λ r. r.number) (λ x y e. ap (λ (p : ℕ). record { number = p }) e) (λ _ fits. fits) one64

-- they take 8 bytes
pub small_last_number : (r : LastNumber) → IsLastNumber r → Any r → IsValueSize (last_number_spelling r)
unfolding b64
small_last_number r fits asked = let taken : length (last_number_spelling r) ≡ 8 = refl in omega (arith, taken)
