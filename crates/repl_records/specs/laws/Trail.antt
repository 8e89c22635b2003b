-- Proofs about the spellings of what a set's trail keeps. There is nothing to believe here.
use Rattle.std.proofs.Common.{◌≡◌, ◌≢◌, ℕ, List, ◌∷◌, ◌++◌, length, drop, Option, Some, None, refl, ap, arith, length-append}
use Rattle.repl_types.specs.Sizes.{IsValueSize}
use Rattle.repl_records.specs.declared.trail.TrailEntry.{TrailEntry}
use Rattle.repl_records.specs.declared.trail.TrailEntry.TheVariants.{Refresh, Block, Load, Settle}
use Rattle.repl_records.specs.Trail.{IsBase, base_spelling, IsEntry, entry_spelling}
use Rattle.repl_records.specs.laws.Numbers.{one_two_numbers, one_three_numbers}
use Rattle.row_codec.specs.Spelling.{Any, Is64, b64}
use Rattle.row_codec.specs.Takes.{One, NoPrefix, PairFits, pair_spelling}
use Rattle.row_codec.specs.laws.Numbers.{one64, length64}
use Rattle.row_codec.specs.laws.Ones.{one_pair}
use Rattle.row_codec.specs.laws.Tags.{other_first}

-- points of base aggregates
pub one_base : One IsBase base_spelling
one_base None None a b fx fy e = (refl, (one64 0 0 a b (omega arith) (omega arith) (ap (drop 1) e)).1)
one_base None (Some q) a b fx fy e = absurd (other_first 0 1 _ _ (omega arith) e)
one_base (Some p) None a b fx fy e = absurd (other_first 1 0 _ _ (omega arith) e)
one_base (Some p) (Some q) a b fx fy e = let same = one64 p q a b fx fy (ap (drop 1) e) in (ap (λ (n : ℕ). Some n) same.0, same.1)

-- the fields of a refresh's entry
abbrev pub RefreshFields : Type 0
RefreshFields = (ℕ × ℕ) × Option ℕ

-- such fields
pub one_refresh : One {X = RefreshFields} (PairFits (PairFits Is64 Is64) IsBase) (pair_spelling (pair_spelling b64 b64) base_spelling)
one_refresh = one_pair _ _ _ _ one_two_numbers one_base

-- the fields of a block's entry
abbrev pub BlockFields : Type 0
BlockFields = ((((ℕ × ℕ) × ℕ) × ℕ) × ℕ) × Option ℕ

-- such fields
pub one_block : One {X = BlockFields} (PairFits (PairFits (PairFits (PairFits (PairFits Is64 Is64) Is64) Is64) Is64) IsBase) (pair_spelling (pair_spelling (pair_spelling (pair_spelling (pair_spelling b64 b64) b64) b64) b64) base_spelling)
one_block = one_pair _ _ _ _ (one_pair _ _ _ _ (one_pair _ _ _ _ one_three_numbers one64) one64) one_base

-- the fields of a load's entry
abbrev pub LoadFields : Type 0
LoadFields = (ℕ × ℕ) × ℕ

-- the fields of a settling's entry
abbrev pub SettleFields : Type 0
SettleFields = ((ℕ × ℕ) × ℕ) × ℕ

-- such fields
pub one_settle : One {X = SettleFields} (PairFits (PairFits (PairFits Is64 Is64) Is64) Is64) (pair_spelling (pair_spelling (pair_spelling b64 b64) b64) b64)
one_settle = one_pair _ _ _ _ one_three_numbers one64

-- entries
pub one_entry : One IsEntry entry_spelling
one_entry (Refresh p r q) (Refresh p' r' q') a b fx fy e =
    let same = one_refresh ((p, r), q) ((p', r'), q') a b ((fx.0, fx.1), fx.2) ((fy.0, fy.1), fy.2) (ap (drop 1) e) in
    (ap (λ (v : RefreshFields). Refresh v.0.0 v.0.1 v.1) same.0, same.1)
one_entry (Refresh p r q) (Block p' t' i' u' d' q') a b fx fy e = absurd (other_first 1 2 _ _ (omega arith) e)
one_entry (Refresh p r q) (Load m' f' r') a b fx fy e = absurd (other_first 1 3 _ _ (omega arith) e)
one_entry (Refresh p r q) (Settle m' f' j' k') a b fx fy e = absurd (other_first 1 4 _ _ (omega arith) e)
one_entry (Block p t i u d q) (Refresh p' r' q') a b fx fy e = absurd (other_first 2 1 _ _ (omega arith) e)
one_entry (Block p t i u d q) (Block p' t' i' u' d' q') a b fx fy e =
    let same = one_block (((((p, t), i), u), d), q) (((((p', t'), i'), u'), d'), q') a b (((((fx.0, fx.1), fx.2), fx.3), fx.4), fx.5) (((((fy.0, fy.1), fy.2), fy.3), fy.4), fy.5) (ap (drop 1) e) in
    (ap (λ (v : BlockFields). Block v.0.0.0.0.0 v.0.0.0.0.1 v.0.0.0.1 v.0.0.1 v.0.1 v.1) same.0, same.1)
one_entry (Block p t i u d q) (Load m' f' r') a b fx fy e = absurd (other_first 2 3 _ _ (omega arith) e)
one_entry (Block p t i u d q) (Settle m' f' j' k') a b fx fy e = absurd (other_first 2 4 _ _ (omega arith) e)
one_entry (Load m f r) (Refresh p' r' q') a b fx fy e = absurd (other_first 3 1 _ _ (omega arith) e)
one_entry (Load m f r) (Block p' t' i' u' d' q') a b fx fy e = absurd (other_first 3 2 _ _ (omega arith) e)
one_entry (Load m f r) (Load m' f' r') a b fx fy e =
    let same = one_three_numbers ((m, f), r) ((m', f'), r') a b ((fx.0, fx.1), fx.2) ((fy.0, fy.1), fy.2) (ap (drop 1) e) in
    (ap (λ (v : LoadFields). Load v.0.0 v.0.1 v.1) same.0, same.1)
one_entry (Load m f r) (Settle m' f' j' k') a b fx fy e = absurd (other_first 3 4 _ _ (omega arith) e)
one_entry (Settle m f j k) (Refresh p' r' q') a b fx fy e = absurd (other_first 4 1 _ _ (omega arith) e)
one_entry (Settle m f j k) (Block p' t' i' u' d' q') a b fx fy e = absurd (other_first 4 2 _ _ (omega arith) e)
one_entry (Settle m f j k) (Load m' f' r') a b fx fy e = absurd (other_first 4 3 _ _ (omega arith) e)
one_entry (Settle m f j k) (Settle m' f' j' k') a b fx fy e =
    let same = one_settle (((m, f), j), k) (((m', f'), j'), k') a b (((fx.0, fx.1), fx.2), fx.3) (((fy.0, fy.1), fy.2), fy.3) (ap (drop 1) e) in
    (ap (λ (v : SettleFields). Settle v.0.0.0 v.0.0.1 v.0.1 v.1) same.0, same.1)

-- after 0x01 there is the entry of a refresh, or none
pub only_refresh : (bytes : List ℕ) → ((p rows : ℕ) (base : Option ℕ) (rest : List ℕ) → IsEntry (Refresh p rows base) → bytes ≢ (b64 p ++ b64 rows ++ base_spelling base) ++ rest) → NoPrefix IsEntry entry_spelling (0x01 ∷ bytes)
only_refresh bytes none (Refresh p r q) rest fits e = none p r q rest fits (ap (drop 1) e)
only_refresh bytes none (Block p t i u d q) rest fits e = other_first 1 2 _ _ (omega arith) e
only_refresh bytes none (Load m f r) rest fits e = other_first 1 3 _ _ (omega arith) e
only_refresh bytes none (Settle m f j k) rest fits e = other_first 1 4 _ _ (omega arith) e

-- after 0x02 there is the entry of a block, or none
pub only_block : (bytes : List ℕ) → ((from to inserts updates deletes : ℕ) (base : Option ℕ) (rest : List ℕ) → IsEntry (Block from to inserts updates deletes base) → bytes ≢ (b64 from ++ b64 to ++ b64 inserts ++ b64 updates ++ b64 deletes ++ base_spelling base) ++ rest) → NoPrefix IsEntry entry_spelling (0x02 ∷ bytes)
only_block bytes none (Refresh p r q) rest fits e = other_first 2 1 _ _ (omega arith) e
only_block bytes none (Block p t i u d q) rest fits e = none p t i u d q rest fits (ap (drop 1) e)
only_block bytes none (Load m f r) rest fits e = other_first 2 3 _ _ (omega arith) e
only_block bytes none (Settle m f j k) rest fits e = other_first 2 4 _ _ (omega arith) e

-- after 0x03 there is the entry of a load, or none
pub only_load : (bytes : List ℕ) → ((m f rows : ℕ) (rest : List ℕ) → IsEntry (Load m f rows) → bytes ≢ (b64 m ++ b64 f ++ b64 rows) ++ rest) → NoPrefix IsEntry entry_spelling (0x03 ∷ bytes)
only_load bytes none (Refresh p r q) rest fits e = other_first 3 1 _ _ (omega arith) e
only_load bytes none (Block p t i u d q) rest fits e = other_first 3 2 _ _ (omega arith) e
only_load bytes none (Load m f r) rest fits e = none m f r rest fits (ap (drop 1) e)
only_load bytes none (Settle m f j k) rest fits e = other_first 3 4 _ _ (omega arith) e

-- after 0x04 there is the entry of a settling, or none
pub only_settle : (bytes : List ℕ) → ((m f rejected applied : ℕ) (rest : List ℕ) → IsEntry (Settle m f rejected applied) → bytes ≢ (b64 m ++ b64 f ++ b64 rejected ++ b64 applied) ++ rest) → NoPrefix IsEntry entry_spelling (0x04 ∷ bytes)
only_settle bytes none (Refresh p r q) rest fits e = other_first 4 1 _ _ (omega arith) e
only_settle bytes none (Block p t i u d q) rest fits e = other_first 4 2 _ _ (omega arith) e
only_settle bytes none (Load m f r) rest fits e = other_first 4 3 _ _ (omega arith) e
only_settle bytes none (Settle m f j k) rest fits e = none m f j k rest fits (ap (drop 1) e)

-- the point of base aggregates takes nine bytes
length_base : (base : Option ℕ) → length (base_spelling base) ≡ 9
length_base None = omega (arith, length64 0)
length_base (Some q) = omega (arith, length64 q)

-- an entry takes at most 50 bytes
pub small_entry : (entry : TrailEntry) → IsEntry entry → Any entry → IsValueSize (entry_spelling entry)
small_entry (Refresh p r q) fits asked = omega (arith, length-append (b64 p ++ b64 r) (base_spelling q), length-append (b64 p) (b64 r), length64 p, length64 r, length_base q)
small_entry (Block p t i u d q) fits asked = omega (arith, length-append (b64 p ++ b64 t ++ b64 i ++ b64 u ++ b64 d) (base_spelling q), length-append (b64 p ++ b64 t ++ b64 i ++ b64 u) (b64 d), length-append (b64 p ++ b64 t ++ b64 i) (b64 u), length-append (b64 p ++ b64 t) (b64 i), length-append (b64 p) (b64 t), length64 p, length64 t, length64 i, length64 u, length64 d, length_base q)
small_entry (Load m f r) fits asked = omega (arith, length-append (b64 m ++ b64 f) (b64 r), length-append (b64 m) (b64 f), length64 m, length64 f, length64 r)
small_entry (Settle m f j k) fits asked = omega (arith, length-append (b64 m ++ b64 f ++ b64 j) (b64 k), length-append (b64 m ++ b64 f) (b64 j), length-append (b64 m) (b64 f), length64 m, length64 f, length64 j, length64 k)
