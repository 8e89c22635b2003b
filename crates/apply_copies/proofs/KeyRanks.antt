-- Keys of rows by numbers, which rise with the keys and are bounded: proofs.
use Rattle.std.proofs.Common.{◌≡◌, ◌⊎◌, ℕ, zero, suc, ◌+◌, ◌*◌, ◌/◌, ◌<◌, ◌≤◌, ltb, Bool, true, false, cond, List, [], ◌∷◌, length, inl, inr, refl, sym, ap, subst, arith, mul-le-mul_left, ◌==◌, Option, Some, None, IfSome, IsUtf8, Ordering, Less, Equal, Greater}
use Rattle.std.proofs.Math.Utf8.{encode, encodes, next, scalar, scalars, scalar_cases}
use Rattle.std.specs.List.{AllByRecursion}
use Rattle.std.specs.Ordering.{nat_cmp, ordering_then}
use Rattle.std.specs.Cmp.{ranked}
use Rattle.std.proofs.lemmas.Bool.{and_parts, ltb-true}
use Rattle.world_store.specs.Words.{b64, shifted, marked_byte, zeros_marked, value_spelling, key_spelling, IsKey}
use Rattle.site_store.specs.Words.{after_key}
use Rattle.repl_model.specs.Words.{bytes_cmp, key_limit, Values, IsValue, Value, all_append}
use Rattle.repl_types.specs.declared.value.Value.TheVariants.{Null, Int, Text}
use Rattle.apply_copies.specs.Keys.{IsStoredKey}

-- ---- bytes

-- all these numbers are bytes
abbrev AreBytes : List ℕ → Type 0
AreBytes = AllByRecursion (λ b. b < 256)

-- a number's
number_bytes : (n : ℕ) → AreBytes (b64 n)
unfolding b64
number_bytes n = (omega arith, (omega arith, (omega arith, (omega arith, (omega arith, (omega arith, (omega arith, (omega arith, tt))))))))

-- a character's
char_bytes : (c : ℕ) → c < 1114112 → AreBytes (encode c)
unfolding encode
char_bytes c lt = one (ltb c 128) refl
  where
    three : (t : Bool) → ltb c 65536 ≡ t → AreBytes (cond t ((224 + c / 4096) ∷ next (c / 64) ∷ next c ∷ []) ((240 + c / 262144) ∷ next (c / 4096) ∷ next (c / 64) ∷ next c ∷ []))
    three true e = let small = ltb-true c 65536 e in (omega (arith, small), (omega arith, (omega arith, tt)))
    three false e = (omega (arith, lt), (omega arith, (omega arith, (omega arith, tt))))

    two : (t : Bool) → ltb c 2048 ≡ t → AreBytes (cond t ((192 + c / 64) ∷ next c ∷ []) (cond (ltb c 65536) ((224 + c / 4096) ∷ next (c / 64) ∷ next c ∷ []) ((240 + c / 262144) ∷ next (c / 4096) ∷ next (c / 64) ∷ next c ∷ [])))
    two true e = let small = ltb-true c 2048 e in (omega (arith, small), (omega arith, tt))
    two false e = three (ltb c 65536) refl

    one : (t : Bool) → ltb c 128 ≡ t → AreBytes (cond t (c ∷ []) (cond (ltb c 2048) ((192 + c / 64) ∷ next c ∷ []) (cond (ltb c 65536) ((224 + c / 4096) ∷ next (c / 64) ∷ next c ∷ []) ((240 + c / 262144) ∷ next (c / 4096) ∷ next (c / 64) ∷ next c ∷ []))))
    one true e = (omega (arith, ltb-true c 128 e), tt)
    one false e = two (ltb c 2048) refl

-- a text's
chars_bytes : (cs : List ℕ) → scalars cs ≡ true → AreBytes (encodes cs)
chars_bytes [] all = tt
chars_bytes (c ∷ cs) all = let both = and_parts (scalar c) (scalars cs) all in all_append (λ b. b < 256) (encode c) (encodes cs) (char_bytes c (small (scalar_cases c both.0))) (chars_bytes cs both.1)
  where
    small : (c < 55296) ⊎ ((57344 ≤ c) × (c < 1114112)) → c < 1114112
    small (inl lt) = omega arith
    small (inr both) = both.1

text_bytes : (t : List ℕ) → IsUtf8 t → AreBytes t
text_bytes t utf8 = subst AreBytes utf8.1.1 (chars_bytes utf8.0 utf8.1.0)

-- those of a text that is marked
marked_bytes : (t : List ℕ) → AreBytes t → AreBytes (zeros_marked t)
marked_bytes [] all = tt
marked_bytes (b ∷ bs) all = all_append (λ c. c < 256) (marked_byte b) (zeros_marked bs) (one (b == 0)) (marked_bytes bs all.1)
  where
    one : (t : Bool) → AreBytes (cond t (0 ∷ 255 ∷ []) (b ∷ []))
    one true = (omega arith, (omega arith, tt))
    one false = (all.0, tt)

-- a value's
value_bytes : (v : Value) → IsValue v → AreBytes (value_spelling v)
value_bytes Null fit = (omega arith, tt)
value_bytes (Int n) fit = (omega arith, number_bytes (shifted n))
value_bytes (Text t) fit = (omega arith, all_append (λ b. b < 256) (zeros_marked t) (0 ∷ 0 ∷ []) (marked_bytes t (text_bytes t fit.1)) (omega arith, (omega arith, tt)))

-- a key's
key_bytes : (key : Values) → IsKey key → AreBytes (key_spelling key)
key_bytes [] fit = tt
key_bytes (v ∷ key) fit = all_append (λ b. b < 256) (value_spelling v) (key_spelling key) (value_bytes v fit.0) (key_bytes key fit.1)

-- ---- numbers

-- more than all numbers of so many bytes
pub rank_limit : ℕ → ℕ
rank_limit zero = 1
rank_limit (suc n) = 257 * rank_limit n

-- the number of a list of at most so many bytes
pub rank : ℕ → List ℕ → ℕ
rank zero k = 0
rank (suc n) [] = 0
rank (suc n) (b ∷ k) = rank_limit n * (b + 1) + rank n k

some_rank : (n : ℕ) → 0 < rank_limit n
unfolding rank_limit
some_rank zero = omega arith
some_rank (suc n) = omega (arith, some_rank n)

below_limit : (n : ℕ) (k : List ℕ) → AreBytes k → rank n k < rank_limit n
unfolding rank rank_limit
below_limit zero k all = omega arith
below_limit (suc n) [] all = omega (arith, some_rank n)
below_limit (suc n) (b ∷ k) all =
    let le : b + 1 ≤ 256 = omega (arith, all.0) in
    omega (arith, mul-le-mul_left (rank_limit n) le, below_limit n k all.1)

-- a later list has a higher number
bytes_rise : (n : ℕ) (k l : List ℕ) → length k ≤ n → length l ≤ n → AreBytes k → AreBytes l → bytes_cmp k l ≡ Less → rank n k < rank n l
unfolding rank
bytes_rise zero [] [] short few all both less = absurd cc
bytes_rise zero [] (c ∷ l) short few all both less = absurd (omega (arith, few))
bytes_rise zero (b ∷ k) l short few all both less = absurd (omega (arith, short))
bytes_rise (suc n) [] [] short few all both less = absurd cc
bytes_rise (suc n) [] (c ∷ l) short few all both less =
    let le : 1 ≤ c + 1 = omega arith in
    omega (arith, some_rank n, mul-le-mul_left (rank_limit n) le)
bytes_rise (suc n) (b ∷ k) [] short few all both less = absurd cc
bytes_rise (suc n) (b ∷ k) (c ∷ l) short few all both less = pick (nat_cmp b c) refl less (bytes_rise n k l (omega (arith, short)) (omega (arith, few)) all.1 both.1)
  where
    pick : (o : Ordering) → nat_cmp b c ≡ o → ordering_then o (bytes_cmp k l) ≡ Less → (bytes_cmp k l ≡ Less → rank n k < rank n l) → rank_limit n * (b + 1) + rank n k < rank_limit n * (c + 1) + rank n l
    pick Less e h rest =
        let lt : b < c = ranked b c Less (sym e) in
        let le : b + 2 ≤ c + 1 = omega (arith, lt) in
        omega (arith, mul-le-mul_left (rank_limit n) le, below_limit n k all.1)
    pick Equal e h rest =
        let is : b ≡ c = ranked b c Equal (sym e) in
        omega (arith, rest h, ap (λ (m : ℕ). rank_limit n * (m + 1)) is)
    pick Greater e h rest = absurd cc

-- ---- keys

-- how many keys there are up to this one
pub rank_of : Option Values → ℕ
rank_of None = 0
rank_of (Some key) = rank key_limit (key_spelling key) + 1

-- the next key after one, or after none, has a higher number
pub rank_rises : (last : Option Values) (key : Values) → IfSome last IsStoredKey → IsStoredKey key → bytes_cmp (after_key key_spelling last) (key_spelling key) ≡ Less → rank_of last < rank_of (Some key)
unfolding rank_of
rank_rises None key fit fits less = omega arith
rank_rises (Some k) key fit fits less = omega (arith, bytes_rise key_limit (key_spelling k) (key_spelling key) fit.size.short fits.size.short (key_bytes k fit.fits) (key_bytes key fits.fits) less)

-- no number is above the number of keys
pub rank_small : (last : Option Values) → IfSome last IsStoredKey → rank_of last ≤ rank_limit key_limit
unfolding rank_of
rank_small None fit = omega arith
rank_small (Some k) fit = omega (arith, below_limit key_limit (key_spelling k) (key_bytes k fit.fits))
