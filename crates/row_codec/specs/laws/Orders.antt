-- Proofs that spellings are in the order of what they spell. There is nothing to believe here.
use Rattle.std.proofs.Common.{◌≡◌, ℕ, ◌+◌, ◌*◌, ◌/◌, ◌%◌, ◌^◌, ◌<◌, ◌≤◌, List, [], ◌∷◌, ◌++◌, length, refl, sym, ap, ◌∙◌, append_assoc, append-nil, arith}
use Rattle.std.proofs.Math.Nat.{mul-le-mul_left}
use Rattle.std.specs.Cmp.{nat_cmp_is, ranked}
use Rattle.std.specs.FinMap.{IsAntisymmetric, nat_cmp-IsAntisymmetric, slice_cmp-IsAntisymmetric}
use Rattle.std.specs.Ordering.{nat_cmp, ordering_then}
use Rattle.std.specs.declared.cmp.Ordering.{Ordering}
use Rattle.std.specs.declared.cmp.Ordering.TheVariants.{Less, Equal, Greater}
use Rattle.repl_types.specs.Bytes.{bytes_cmp}
use Rattle.repl_types.specs.Sequence.{sequence_cmp}
use Rattle.row_codec.specs.Takes.{PairFits, pair_spelling}
use Rattle.row_codec.specs.Order.{Ordered, pair_cmp, name_cmp, set_cmp}
use Rattle.row_codec.specs.Spelling.{Is16, Is32, Is64, IsName, IsSet, IsSequence, b16, b32, b64, short_text, set_spelling, sequence_spelling}

-- three comparisons in turn
pub then_assoc : (a b c : Ordering) → ordering_then a (ordering_then b c) ≡ ordering_then (ordering_then a b) c
then_assoc Less b c = refl
then_assoc Equal b c = refl
then_assoc Greater b c = refl

-- nothing follows
then_equal : (r : Ordering) → ordering_then r Equal ≡ r
then_equal Less = refl
then_equal Equal = refl
then_equal Greater = refl

-- numbers of two digits are in the order of the higher digit, and then of the lower
ranks_then : (m q r p s : ℕ) (c d : Ordering) → r < m → s < m → c ≡ nat_cmp q p → d ≡ nat_cmp r s → ordering_then c d ≡ nat_cmp (m * q + r) (m * p + s)
ranks_then m q r p s Less d lr ls ec ed = nat_cmp_is (m * q + r) (m * p + s) Less (let h : q + 1 ≤ p = omega (arith, ranked q p Less ec) in omega (arith, mul-le-mul_left m h))
ranks_then m q r p s Greater d lr ls ec ed = nat_cmp_is (m * q + r) (m * p + s) Greater (let h : p + 1 ≤ q = omega (arith, ranked q p Greater ec) in omega (arith, mul-le-mul_left m h))
ranks_then m q r p s Equal Less lr ls ec ed = nat_cmp_is (m * q + r) (m * p + s) Less (let h : m * q ≡ m * p = ap (λ (n : ℕ). m * n) (ranked q p Equal ec) in let k : r < s = ranked r s Less ed in omega arith)
ranks_then m q r p s Equal Equal lr ls ec ed = nat_cmp_is (m * q + r) (m * p + s) Equal (let h : m * q ≡ m * p = ap (λ (n : ℕ). m * n) (ranked q p Equal ec) in let k : r ≡ s = ranked r s Equal ed in omega arith)
ranks_then m q r p s Equal Greater lr ls ec ed = nat_cmp_is (m * q + r) (m * p + s) Greater (let h : m * q ≡ m * p = ap (λ (n : ℕ). m * n) (ranked q p Equal ec) in let k : s < r = ranked r s Greater ed in omega arith)

-- one more byte before what is compared already
more : (m q r p s x y : ℕ) (rest z : Ordering) → x ≡ m * q + r → y ≡ m * p + s → r < m → s < m → rest ≡ ordering_then (nat_cmp r s) z → ordering_then (nat_cmp q p) rest ≡ ordering_then (nat_cmp x y) z
more m q r p s x y rest z ex ey lr ls e =
    let mixed : ordering_then (nat_cmp q p) (nat_cmp r s) ≡ nat_cmp x y = ranks_then m q r p s _ _ lr ls refl refl ∙ ap (λ (n : ℕ). nat_cmp n (m * p + s)) (sym ex) ∙ ap (nat_cmp x) (sym ey) in
    ap (ordering_then (nat_cmp q p)) e ∙ then_assoc (nat_cmp q p) (nat_cmp r s) z ∙ ap (λ (c : Ordering). ordering_then c z) mixed

-- numbers of eight bytes
pub order64 : Ordered Is64 b64 nat_cmp
unfolding b64
order64 x y a b lx ly =
    let z = bytes_cmp a b in
    let e2 = more 256 (x / 256 % 256) (x % 256) (y / 256 % 256) (y % 256) (x % 256 ^ 2) (y % 256 ^ 2) _ z (omega arith) (omega arith) (omega arith) (omega arith) refl in
    let e3 = more (256 ^ 2) (x / 256 ^ 2 % 256) (x % 256 ^ 2) (y / 256 ^ 2 % 256) (y % 256 ^ 2) (x % 256 ^ 3) (y % 256 ^ 3) _ z (omega arith) (omega arith) (omega arith) (omega arith) e2 in
    let e4 = more (256 ^ 3) (x / 256 ^ 3 % 256) (x % 256 ^ 3) (y / 256 ^ 3 % 256) (y % 256 ^ 3) (x % 256 ^ 4) (y % 256 ^ 4) _ z (omega arith) (omega arith) (omega arith) (omega arith) e3 in
    let e5 = more (256 ^ 4) (x / 256 ^ 4 % 256) (x % 256 ^ 4) (y / 256 ^ 4 % 256) (y % 256 ^ 4) (x % 256 ^ 5) (y % 256 ^ 5) _ z (omega arith) (omega arith) (omega arith) (omega arith) e4 in
    let e6 = more (256 ^ 5) (x / 256 ^ 5 % 256) (x % 256 ^ 5) (y / 256 ^ 5 % 256) (y % 256 ^ 5) (x % 256 ^ 6) (y % 256 ^ 6) _ z (omega arith) (omega arith) (omega arith) (omega arith) e5 in
    let e7 = more (256 ^ 6) (x / 256 ^ 6 % 256) (x % 256 ^ 6) (y / 256 ^ 6 % 256) (y % 256 ^ 6) (x % 256 ^ 7) (y % 256 ^ 7) _ z (omega arith) (omega arith) (omega arith) (omega arith) e6 in
    more (256 ^ 7) (x / 256 ^ 7 % 256) (x % 256 ^ 7) (y / 256 ^ 7 % 256) (y % 256 ^ 7) x y _ z (omega arith) (omega arith) (omega arith) (omega arith) e7

-- numbers of four bytes
pub order32 : Ordered Is32 b32 nat_cmp
unfolding b32
order32 x y a b lx ly =
    let z = bytes_cmp a b in
    let e2 = more 256 (x / 256 % 256) (x % 256) (y / 256 % 256) (y % 256) (x % 256 ^ 2) (y % 256 ^ 2) _ z (omega arith) (omega arith) (omega arith) (omega arith) refl in
    let e3 = more (256 ^ 2) (x / 256 ^ 2 % 256) (x % 256 ^ 2) (y / 256 ^ 2 % 256) (y % 256 ^ 2) (x % 256 ^ 3) (y % 256 ^ 3) _ z (omega arith) (omega arith) (omega arith) (omega arith) e2 in
    more (256 ^ 3) (x / 256 ^ 3 % 256) (x % 256 ^ 3) (y / 256 ^ 3 % 256) (y % 256 ^ 3) x y _ z (omega arith) (omega arith) (omega arith) (omega arith) e3

-- numbers of two bytes
pub order16 : Ordered Is16 b16 nat_cmp
unfolding b16
order16 x y a b lx ly =
    let z = bytes_cmp a b in
    more 256 (x / 256 % 256) (x % 256) (y / 256 % 256) (y % 256) x y _ z (omega arith) (omega arith) (omega arith) (omega arith) refl

-- prefixes of one length are compared first
prefixes_first : (x y a b : List ℕ) → length x ≡ length y → bytes_cmp (x ++ a) (y ++ b) ≡ ordering_then (bytes_cmp x y) (bytes_cmp a b)
prefixes_first [] [] a b e = refl
prefixes_first [] (k ∷ y) a b e = absurd (omega arith)
prefixes_first (j ∷ x) [] a b e = absurd (omega arith)
prefixes_first (j ∷ x) (k ∷ y) a b e = ap (ordering_then (nat_cmp j k)) (prefixes_first x y a b (omega arith)) ∙ then_assoc (nat_cmp j k) (bytes_cmp x y) (bytes_cmp a b)

-- texts after their lengths
after_lengths : (x y a b : List ℕ) (c : Ordering) → c ≡ nat_cmp (length x) (length y) → ordering_then c (bytes_cmp (x ++ a) (y ++ b)) ≡ ordering_then (ordering_then c (bytes_cmp x y)) (bytes_cmp a b)
after_lengths x y a b Less e = refl
after_lengths x y a b Equal e = prefixes_first x y a b (ranked (length x) (length y) Equal e)
after_lengths x y a b Greater e = refl

-- names
pub order_name : Ordered IsName short_text name_cmp
order_name x y a b fx fy = after_lengths x y a b (nat_cmp (length x) (length y)) refl

-- pairs
pub order_pair : {A B : Type 0} (fits_a : A → Type 0) (fits_b : B → Type 0) (spelling_a : A → List ℕ) (spelling_b : B → List ℕ) (cmp_a : A → A → Ordering) (cmp_b : B → B → Ordering) → Ordered fits_a spelling_a cmp_a → Ordered fits_b spelling_b cmp_b → Ordered (PairFits fits_a fits_b) (pair_spelling spelling_a spelling_b) (pair_cmp cmp_a cmp_b)
order_pair fits_a fits_b spelling_a spelling_b cmp_a cmp_b order_a order_b x y a b fx fy =
    ap (λ (bytes : List ℕ). bytes_cmp bytes ((spelling_a y.0 ++ spelling_b y.1) ++ b)) (append_assoc (spelling_a x.0) (spelling_b x.1) a)
    ∙ ap (bytes_cmp (spelling_a x.0 ++ (spelling_b x.1 ++ a))) (append_assoc (spelling_a y.0) (spelling_b y.1) b)
    ∙ order_a x.0 y.0 (spelling_b x.1 ++ a) (spelling_b y.1 ++ b) fx.0 fy.0
    ∙ ap (ordering_then (cmp_a x.0 y.0)) (order_b x.1 y.1 a b fx.1 fy.1)
    ∙ then_assoc (cmp_a x.0 y.0) (cmp_b x.1 y.1) (bytes_cmp a b)

-- whole spellings
pub whole_order : {X : Type 0} (fits : X → Type 0) (spelling : X → List ℕ) (cmp : X → X → Ordering) → Ordered fits spelling cmp → (x y : X) → fits x → fits y → bytes_cmp (spelling x) (spelling y) ≡ cmp x y
whole_order fits spelling cmp order x y fx fy =
    ap (λ (bytes : List ℕ). bytes_cmp bytes (spelling y)) (sym (append-nil (spelling x)))
    ∙ ap (bytes_cmp (spelling x ++ [])) (sym (append-nil (spelling y)))
    ∙ order x y [] [] fx fy
    ∙ then_equal (cmp x y)

-- the names of sets
pub order_set : Ordered IsSet set_spelling set_cmp
order_set x y a b fx fy = order_pair IsName IsName short_text short_text name_cmp name_cmp order_name order_name (x.qual, x.name) (y.qual, y.name) a b fx fy

-- places in a log by position and sub-number
pub order_sequence : Ordered IsSequence sequence_spelling sequence_cmp
order_sequence x y = order_pair Is64 Is16 b64 b16 nat_cmp nat_cmp order64 order16 (x.position, x.sub) (y.position, y.sub)

-- names of which neither is before the other are one
pub name_cmp_exact : IsAntisymmetric name_cmp
name_cmp_exact x y e = slice_cmp-IsAntisymmetric nat_cmp-IsAntisymmetric x y (second (nat_cmp (length x) (length y)) (bytes_cmp x y) e)
  where
    second : (a b : Ordering) → ordering_then a b ≡ Equal → b ≡ Equal
    second Equal b e = e
    second Less b e = absurd cc
    second Greater b e = absurd cc
