-- Numerals, and the one numeral of each number.
use Rattle.std.proofs.Common.{◌≡◌, ◌≢◌, ℕ, zero, suc, ◌-◌, ◌^◌, ◌<◌, ◌≤◌, Bool, true, cond, ◌&&◌, ◌||◌, not, eqb, ltb, leb, ◌⊎◌, List, [], ◌∷◌, length, get_or, drop, Some, None, Result, Ok, Err, ℤ, pos, negsuc, neg_ℤ, refl, sym, ap, subst, ◌∙◌, inl, inr, arith, lt-ltb, ne_eqb}
use Rattle.std.proofs.Math.Bool.{and-true}
use Rattle.std.specs.Char.{is_ascii_digit}
use Rattle.std.specs.Fmt.{decimal, signed_decimal}
use Rattle.std.specs.Int.{IsInRange, w64}
use Rattle.std.specs.Int.RustNames.{FitsSigned}
use Rattle.std.proofs.lemmas.Option.{cond_some}
use Rattle.std.specs.List.{list_all}
use Rattle.std.specs.Result.{OkIff, result_ok}
use Rattle.std.specs.Str.{all_ascii_digits, IsUtf8}
use Rattle.std.specs.Str.Parse.{digits_value, ParsesUnsigned, ParsesSigned}
use Rattle.std.proofs.lemmas.Bool.{and_parts, and_from, and_right, or_cases, or_left, or_right, not-true, not_from_false, false_from_ne_true, eqb-true, eqb-false, ltb-true, leb-true, le-leb, lt-leb, cases_eq, cases_lt, eq-eqb}
use Rattle.std.proofs.lemmas.Fmt.{decimal-digits_value, digits_decimal, digits_value-decimal, decimal_nonempty, decimal_digit, first_decimal, IsAscii-from_digits}
use Rattle.std.proofs.lemmas.Str.{IsUtf8-from_ascii}
use Rattle.std.proofs.lemmas.Str.Ascii.{IsAscii-cons}
use Rattle.std.proofs.lemmas.List.{get_or-drop}
use Rattle.std.proofs.lemmas.Str.Parse.{IsNumeralModel, numerals_by_value, tells_all_ascii_digits, digit_at, parse_digits, parse_signed_minus, parse_signed_digits}
use Rattle.repl_types.specs.Numbers.{is_numeral, is_integer, number_of, integer_of}

-- `all` over a slice tests what `all_ascii_digits` does
all_digits : (word : List ℕ) → all_ascii_digits word ≡ list_all is_ascii_digit word
all_digits [] = refl
all_digits (b ∷ bs) = ap (λ (rest : Bool). is_ascii_digit b && rest) (all_digits bs)

-- with a first digit other than 0, a word is a numeral if each byte is a digit
pub plain_numeral : (word : List ℕ) → 0 < length word → get_or word 0 0 ≢ 48 → list_all is_ascii_digit word ≡ is_numeral word
plain_numeral word some first = rw (lt-ltb 0 (length word) some, ne_eqb (get_or word 0 0) 48 first, all_digits word) (sym (and-true (list_all is_ascii_digit word)))

-- ---- numerals

-- the test of digits and the value of digits are those of std
own : IsNumeralModel (λ ds. all_ascii_digits ds ≡ true) (digits_value 10)
own = numerals_by_value _ tells_all_ascii_digits

-- what a numeral is: digits, the first of which isn't 0 except in `0` itself
record Numeral (word : List ℕ) : Type 0 where
  some : 0 < length word
  digits : all_ascii_digits word ≡ true
  first : get_or word 0 0 ≡ 48 → length word ≡ 1

-- the parts of a numeral
numeral_parts : (word : List ℕ) → is_numeral word ≡ true → Numeral word
numeral_parts word h =
    let p = and_parts _ _ h in
    let q = and_parts _ _ p.0 in
    record { some = ltb-true 0 (length word) q.0; digits = q.1; first = first (get_or word 0 0) (length word) p.1 }
  where
    first : (b n : ℕ) → (not (eqb b 48) || eqb n 1) ≡ true → b ≡ 48 → n ≡ 1
    first b n e is = elim (or_cases _ _ e) [
      | inl other ↦ absurd (eqb-false b 48 (not-true _ other) is)
      | inr one ↦ eqb-true n 1 one
    ]

-- a numeral is UTF-8
pub numeral_is_text : (word : List ℕ) → is_numeral word ≡ true → IsUtf8 word
numeral_is_text word h = IsUtf8-from_ascii word (IsAscii-from_digits word (own.to word (numeral_parts word h).digits))

-- a numeral is the decimal of its value
pub numeral_is_decimal : (word : List ℕ) → is_numeral word ≡ true → digits_value 10 word < 2 ^ 64 → decimal (digits_value 10 word) ≡ word
numeral_is_decimal word h small = let p = numeral_parts word h in decimal-digits_value own word p.digits p.some p.first small

-- a decimal is a numeral
pub decimal_is_numeral : (n : ℕ) → n < 2 ^ 64 → is_numeral (decimal n) ≡ true
decimal_is_numeral n small = and_from _ _ (and_from _ _ (lt-ltb 0 (length (decimal n)) (decimal_nonempty n small)) (digits_decimal own n small)) (first (cases_eq n 0))
  where
    first : (n ≡ 0) ⊎ (n ≢ 0) → (not (eqb (get_or (decimal n) 0 0) 48) || eqb (length (decimal n)) 1) ≡ true
    first (inl none) = or_right _ _ (eq-eqb _ 1 (ap (λ (k : ℕ). length (decimal k)) none ∙ ap length (decimal_digit 0 (omega arith))))
    first (inr some) = or_left _ _ (not_from_false _ (ne_eqb (get_or (decimal n) 0 0) 48 (λ same. absurd (omega (arith, first_decimal n (omega arith) small)))))

-- the value of a decimal is the number
pub value_of_decimal : (n : ℕ) → n < 2 ^ 64 → digits_value 10 (decimal n) ≡ n
value_of_decimal n small = digits_value-decimal own n small

-- a numeral whose first digit isn't 0 has a value above 0
numeral_above_zero : (word : List ℕ) → is_numeral word ≡ true → get_or word 0 0 ≢ 48 → 0 < digits_value 10 word
numeral_above_zero word h first = elim (cases_eq (digits_value 10 word) 0) [
  | inl none ↦ absurd (first (ap (λ (w : List ℕ). get_or w 0 0) (sym (numeral_is_decimal word h (omega arith)) ∙ ap decimal none ∙ decimal_digit 0 (omega arith))))
  | inr some ↦ omega arith
]

-- ---- reading

-- a numeral that `parse` refuses has a value above each number of 64 bits
pub number_past : {E : Type 0} (low high : ℕ) (word : List ℕ) (r : Result ℕ E) → is_numeral word ≡ true → high < 2 ^ 64 → ParsesUnsigned 64 10 word r → None ≡ result_ok r → None ≡ number_of low high word
number_past low high word (Ok n) h fits parsed gone = absurd cc
number_past low high word (Err e) h fits parsed gone =
    let p = numeral_parts word h in
    let not_small = parse_digits own 64 word (Err e) parsed p.digits in
    elim (cases_lt (digits_value 10 word) (2 ^ 64)) [
      | inl small ↦ absurd (not_small (p.some, small))
      | inr large ↦ rw (and_right (is_numeral word && leb low (digits_value 10 word)) (leb (digits_value 10 word) high) (lt-leb _ high (omega arith))) refl
    ]

-- a word of an integer is `-` and a numeral that doesn't begin with 0, or a numeral
integer_cases : (word : List ℕ) → is_integer word ≡ true → ((get_or word 0 0 ≡ 45) × (is_numeral (drop 1 word) ≡ true) × (get_or (drop 1 word) 0 0 ≢ 48)) ⊎ ((get_or word 0 0 ≢ 45) × (is_numeral word ≡ true))
integer_cases word h = elim (cases_eq (get_or word 0 0) 45) [
  | inl is ↦ let p = and_parts _ _ (rw (eq-eqb (get_or word 0 0) 45 is) at h) in inl (is, p.0, λ e. eqb-false _ 48 (not-true _ p.1) (sym (get_or-drop 1 word 0 0) ∙ e))
  | inr other ↦ inr (other, rw (ne_eqb (get_or word 0 0) 45 other) at h)
]

-- a word of an integer is UTF-8
pub integer_is_text : (word : List ℕ) → is_integer word ≡ true → IsUtf8 word
integer_is_text [] h = absurd cc
integer_is_text (b ∷ bs) h = elim (integer_cases (b ∷ bs) h) [
  | inl minus ↦ IsUtf8-from_ascii (b ∷ bs) (IsAscii-cons b bs (omega (arith, minus.0)) (IsAscii-from_digits bs (own.to bs (numeral_parts bs minus.1).digits)))
  | inr plain ↦ numeral_is_text (b ∷ bs) plain.1
]

-- what `parse` gives is a value under a test
settled : {A E : Type 0} (r : Result A E) (P : Type 0) (v : A) (b : Bool) → OkIff r P v → (P → b ≡ true) → (b ≡ true → P) → result_ok r ≡ cond b (Some v) None
settled (Ok x) P v b h to from = rw (to h.0) (ap Some h.1)
settled (Err e) P v b h to from = rw (false_from_ne_true b (λ yes. h (from yes))) refl

-- the negative of a number above 0
negative : (n : ℕ) → 0 < n → neg_ℤ (pos n) ≡ negsuc (n - 1)
negative zero above = absurd (omega arith)
negative (suc n) above = ap negsuc (omega arith)

-- whether digits after `-` spell an integer of 64 bits
abbrev after_minus : List ℕ → Bool
after_minus ds = is_numeral ds && ltb 0 (digits_value 10 ds) && leb (digits_value 10 ds) (2 ^ 63)

-- the integer of a word that begins with `-`
integer_of_minus : (word : List ℕ) → get_or word 0 0 ≡ 45 → integer_of word ≡ cond (after_minus (drop 1 word)) (Some (negsuc (digits_value 10 (drop 1 word) - 1))) None
integer_of_minus word is = rw (eq-eqb (get_or word 0 0) 45 is) refl

-- the integer of another word
integer_of_plain : (word : List ℕ) → get_or word 0 0 ≢ 45 → integer_of word ≡ cond (is_numeral word && ltb (digits_value 10 word) (2 ^ 63)) (Some (pos (digits_value 10 word))) None
integer_of_plain word other = rw (ne_eqb (get_or word 0 0) 45 other) refl

-- what `parse` makes of a word of an integer
pub integer_parsed : {E : Type 0} (word : List ℕ) (r : Result ℤ E) → is_integer word ≡ true → ParsesSigned w64 10 word r → result_ok r ≡ integer_of word
integer_parsed word r h parsed = elim (integer_cases word h) [
  | inl minus ↦
      let ds = drop 1 word in
      let p = numeral_parts ds minus.1 in
      let above = numeral_above_zero ds minus.1 minus.2 in
      settled r _ _ (after_minus ds) (parse_signed_minus own w64 word r parsed minus.0)
      (λ fits. and_from _ _ (and_from _ _ minus.1 (lt-ltb 0 _ above)) (le-leb _ _ fits.2))
      (λ yes. (p.digits, p.some, leb-true _ _ (and_parts _ _ yes).1))
      ∙ ap (λ (z : ℤ). cond (after_minus ds) (Some z) None) (negative (digits_value 10 ds) above)
      ∙ sym (integer_of_minus word minus.0)
  | inr plain ↦
      let p = numeral_parts word plain.1 in
      settled r _ _ (is_numeral word && ltb (digits_value 10 word) (2 ^ 63)) (parse_signed_digits own w64 word r parsed p.digits)
      (λ fits. and_from _ _ plain.1 (lt-ltb _ _ fits.1))
      (λ yes. (p.some, ltb-true _ _ (and_parts _ _ yes).1))
      ∙ sym (integer_of_plain word plain.0)
]

-- ---- one spelling each

-- what spells a number is its decimal
pub number_found : (low high n : ℕ) (word : List ℕ) → high < 2 ^ 64 → number_of low high word ≡ Some n → decimal n ≡ word
number_found low high n word fits h =
    let p = cond_some (is_numeral word && leb low (digits_value 10 word) && leb (digits_value 10 word) high) (digits_value 10 word) n h in
    let q = and_parts _ _ p.0 in
    let below : digits_value 10 word ≤ high = leb-true _ _ q.1 in
    ap decimal (sym p.1) ∙ numeral_is_decimal word (and_parts _ _ q.0).0 (omega arith)

-- the decimal of a number spells it
pub number_again : (low high n : ℕ) → high < 2 ^ 64 → low ≤ n → n ≤ high → number_of low high (decimal n) ≡ Some n
number_again low high n fits above below =
    let small : n < 2 ^ 64 = omega arith in
    rw (decimal_is_numeral n small, value_of_decimal n small, le-leb low n above, le-leb n high below) refl

-- a word by its first byte
pub first_and_rest : (b : ℕ) (word : List ℕ) → 0 < b → get_or word 0 0 ≡ b → b ∷ drop 1 word ≡ word
first_and_rest b [] some is = absurd (omega arith)
first_and_rest b (c ∷ cs) some is = ap (λ (k : ℕ). k ∷ cs) (sym is)

-- what spells an integer is its decimal, and it has 64 bits
pub integer_found : (word : List ℕ) (n : ℤ) → integer_of word ≡ Some n → (signed_decimal n ≡ word) × FitsSigned w64 n
integer_found word n h = elim (cases_eq (get_or word 0 0) 45) [
  | inl is ↦
      let ds = drop 1 word in
      let p = cond_some (after_minus ds) (negsuc (digits_value 10 ds - 1)) n (sym (integer_of_minus word is) ∙ h) in
      let q = and_parts (is_numeral ds && ltb 0 (digits_value 10 ds)) (leb (digits_value 10 ds) (2 ^ 63)) p.0 in
      let r = and_parts (is_numeral ds) (ltb 0 (digits_value 10 ds)) q.0 in
      let above = ltb-true 0 (digits_value 10 ds) r.1 in
      let below = leb-true (digits_value 10 ds) (2 ^ 63) q.1 in
      let back : suc (digits_value 10 ds - 1) ≡ digits_value 10 ds = omega arith in
      let digits = numeral_is_decimal ds r.0 (omega arith) in
      subst (λ (z : ℤ). (signed_decimal z ≡ word) × FitsSigned w64 z) p.1
      (ap (λ (k : ℕ). 45 ∷ decimal k) back ∙ ap (λ (w : List ℕ). 45 ∷ w) digits ∙ first_and_rest 45 word (omega arith) is, record { sfits = omega arith })
  | inr other ↦
      let p = cond_some (is_numeral word && ltb (digits_value 10 word) (2 ^ 63)) (pos (digits_value 10 word)) n (sym (integer_of_plain word other) ∙ h) in
      let q = and_parts _ _ p.0 in
      let below = ltb-true (digits_value 10 word) (2 ^ 63) q.1 in
      subst (λ (z : ℤ). (signed_decimal z ≡ word) × FitsSigned w64 z) p.1 (numeral_is_decimal word q.0 (omega arith), record { sfits = omega arith })
]

-- the first byte of a decimal is a digit
pub decimal_first : (n : ℕ) → n < 2 ^ 64 → IsInRange 48 57 (get_or (decimal n) 0 0)
decimal_first n small = digit_at (decimal n) 0 (own.to (decimal n) (digits_decimal own n small)) (decimal_nonempty n small)

-- the decimal of an integer of 64 bits spells it
pub integer_again : (n : ℤ) → FitsSigned w64 n → integer_of (signed_decimal n) ≡ Some n
integer_again (pos n) fits =
    let small : n < 2 ^ 63 = omega (arith, fits.sfits) in
    let wide : n < 2 ^ 64 = omega arith in
    let first = decimal_first n wide in
    integer_of_plain (decimal n) (omega arith) ∙ rw (decimal_is_numeral n wide, value_of_decimal n wide, lt-ltb n (2 ^ 63) small) refl
integer_again (negsuc n) fits =
    let small : n < 2 ^ 63 = omega (arith, fits.sfits) in
    let wide : suc n < 2 ^ 64 = omega arith in
    rw (decimal_is_numeral (suc n) wide, value_of_decimal (suc n) wide, lt-ltb 0 (suc n) (omega arith), le-leb (suc n) (2 ^ 63) (omega arith)) (ap (λ (k : ℕ). Some (negsuc k)) (omega arith))
