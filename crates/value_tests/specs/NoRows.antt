-- Bytes that are no row, worked out by hand.
use Rattle.std.specs.Prelude.{◌≡◌, ◌≢◌, ℕ, ◌<◌, ◌==◌, pos, ◌⊎◌, Bool, true, false, if◌then◌else◌, codes, List, [], ◌∷◌, ◌++◌, length, drop}
use Rattle.std.proofs.Common.{refl, sym, ap, subst, ◌∙◌, inl, inr, arith, append-nil, eq-eqb}
use Rattle.std.proofs.Math.Utf8.{encode}
use Rattle.std.proofs.lemmas.Str.{IsUtf8-from_is_utf8, is_utf8-from_IsUtf8}
use Rattle.std.specs.List.{flat_map}
use Rattle.std.specs.Str.{chars, is_utf8}
use Rattle.repl_types.specs.ValueText.{IsValue}
use Rattle.repl_types.specs.declared.value.Value.{Value}
use Rattle.repl_types.specs.declared.value.Value.TheVariants.{Null, Int, Text}
use Rattle.row_codec.specs.Spelling.{b16, b64, zeros_marked, value_spelling, IsText, row_spelling, IsRow}
use Rattle.row_codec.specs.Takes.{NoSpelling}
use Rattle.row_codec.specs.laws.Numbers.{first_is, one16}
use Rattle.row_codec.specs.laws.Values.{one_row, one_text}
use Rattle.value_tests.specs.Rows.{letters}
use Rattle.value_tests.specs.Spelled.{torn}

-- the bytes are the spelling of no row
abbrev pub NoRow : List ℕ → Type 0
NoRow = NoSpelling IsRow row_spelling

-- if bytes spell no value, they spell no row of one value
pub no_value : (bytes : List ℕ) → NoSpelling IsValue value_spelling bytes → NoRow (0 ∷ 1 ∷ bytes)
unfolding b16
no_value bytes none [] fit e = absurd cc
no_value bytes none (v ∷ []) fit e = none v fit.1.0 (ap (drop 2) e ∙ append-nil (value_spelling v))
no_value bytes none (v ∷ w ∷ vs) fit e =
    let row = v ∷ w ∷ vs in
    let count = (one16 1 (length row) bytes (flat_map value_spelling row) (omega arith) fit.0 e).0 in
    absurd (omega (arith, count))

-- no value has another tag
pub no_tag : (v : Value) (tag : ℕ) (bytes : List ℕ) → 2 < tag → IsValue v → tag ∷ bytes ≢ value_spelling v
no_tag Null tag bytes large fit e = absurd (omega (arith, large, first_is _ _ _ _ e))
no_tag (Int n) tag bytes large fit e = absurd (omega (arith, large, first_is _ _ _ _ e))
no_tag (Text t) tag bytes large fit e = absurd (omega (arith, large, first_is _ _ _ _ e))

-- if bytes spell no text, they spell no row of one text
no_text : (bytes : List ℕ) → ((text : List ℕ) → IsText text → bytes ≢ zeros_marked text ++ 0 ∷ 0 ∷ []) → NoRow (0 ∷ 1 ∷ 2 ∷ bytes)
no_text bytes none = no_value (2 ∷ bytes) of_value
  where
    of_value : NoSpelling IsValue value_spelling (2 ∷ bytes)
    of_value Null fit e = absurd cc
    of_value (Int n) fit e = absurd cc
    of_value (Text t) fit e = none t fit (ap (drop 1) e)

-- a zero in a text is followed by another or by 255
marked : (text : List ℕ) (byte : ℕ) (bytes : List ℕ) → 0 ∷ byte ∷ bytes ≡ zeros_marked text ++ 0 ∷ 0 ∷ [] → (byte ≡ 0) ⊎ (byte ≡ 255)
marked [] byte bytes e = inl (first_is _ _ _ _ (ap (drop 1) e))
marked (b ∷ text) byte bytes e = by_first (b == 0) refl e
  where
    spelled : Bool → List ℕ
    spelled is_zero = (if is_zero then 0 ∷ 255 ∷ [] else b ∷ []) ++ zeros_marked text ++ 0 ∷ 0 ∷ []

    by_first : (is_zero : Bool) → (b == 0) ≡ is_zero → 0 ∷ byte ∷ bytes ≡ spelled is_zero → (byte ≡ 0) ⊎ (byte ≡ 255)
    by_first true is e = inr (first_is _ _ _ _ (ap (drop 1) e))
    by_first false is e = let same = eq-eqb b 0 (sym (first_is _ _ _ _ e)) in absurd cc

-- a zero is followed by no other byte
no_mark : (byte : ℕ) (bytes : List ℕ) → byte ≢ 0 → byte ≢ 255 → NoRow (0 ∷ 1 ∷ 2 ∷ 0 ∷ byte ∷ bytes)
no_mark byte bytes no_zero no_255 = no_text (0 ∷ byte ∷ bytes) (λ text fit e. either (marked text byte bytes e))
  where
    either : (byte ≡ 0) ⊎ (byte ≡ 255) → ⊥
    either (inl same) = no_zero same
    either (inr same) = no_255 same

-- a byte that is no UTF-8
no_utf8 : (text : List ℕ) → IsText text → 255 ∷ 0 ∷ 0 ∷ [] ≢ zeros_marked text ++ 0 ∷ 0 ∷ []
unfolding chars encode is_utf8
no_utf8 text fit e =
    let same : 255 ∷ [] ≡ text = (one_text (255 ∷ []) text [] [] e).0 in
    let valid = is_utf8-from_IsUtf8 (255 ∷ []) (subst IsText (sym same) fit).1 in
    absurd cc

-- a text that is longer
too_long : (text : List ℕ) → IsText text → letters 1001 ++ 0 ∷ 0 ∷ [] ≢ zeros_marked text ++ 0 ∷ 0 ∷ []
too_long text fit e =
    let same : letters 1001 ≡ text = (one_text (letters 1001) text [] [] e).0 in
    omega (arith, ap length same, fit.0)

pub bytes_that_are_no_row :
    -- no whole count
    NoRow []
    × NoRow (0 ∷ [])
    -- a count that is one too many, and one too few
    × NoRow (0 ∷ 2 ∷ 0 ∷ [])
    × NoRow (0 ∷ 0 ∷ 0 ∷ [])
    -- bytes are left over
    × NoRow (0 ∷ 1 ∷ 0 ∷ 0 ∷ [])
    -- no tag of a value
    × NoRow (0 ∷ 1 ∷ 3 ∷ [])
    -- an integer of seven bytes
    × NoRow (0 ∷ 1 ∷ 1 ∷ 0x80 ∷ 0 ∷ 0 ∷ 0 ∷ 0 ∷ 0 ∷ 0 ∷ [])
    -- a text that doesn't end, and one that ends by one zero
    × NoRow (0 ∷ 1 ∷ 2 ∷ codes "a")
    × NoRow (0 ∷ 1 ∷ 2 ∷ codes "a" ++ 0 ∷ [])
    -- a zero that is marked by nothing, and by another byte
    × NoRow (0 ∷ 1 ∷ 2 ∷ 0 ∷ [])
    × NoRow (0 ∷ 1 ∷ 2 ∷ 0 ∷ 1 ∷ 0 ∷ 0 ∷ [])
    × NoRow (0 ∷ 1 ∷ 2 ∷ 0 ∷ 254 ∷ 0 ∷ 0 ∷ [])
    -- no UTF-8
    × NoRow (0 ∷ 1 ∷ 2 ∷ 255 ∷ 0 ∷ 0 ∷ [])
    -- the second of two values is missing
    × NoRow (0 ∷ 2 ∷ 2 ∷ codes "a" ++ 0 ∷ 0 ∷ [])
unfolding b16 b64 chars encode is_utf8
bytes_that_are_no_row = (
  torn _ _ one_row _ (0 ∷ 0 ∷ []) [] [] (search arith) refl refl,
  torn _ _ one_row _ (0 ∷ []) [] [] (search arith) refl refl,
  torn _ _ one_row _ (0 ∷ []) [] (Null ∷ Null ∷ []) (search arith) refl refl,
  torn _ _ one_row _ [] (0 ∷ []) [] (search arith) refl refl,
  torn _ _ one_row _ [] (0 ∷ []) (Null ∷ []) (search arith) refl refl,
  no_value (3 ∷ []) (λ v. no_tag v 3 [] (omega arith)),
  torn _ _ one_row _ (0 ∷ []) [] (Int (pos 0) ∷ []) (search arith) refl refl,
  torn _ _ one_row _ (0 ∷ 0 ∷ []) [] (Text (codes "a") ∷ []) (search (arith, refl, IsUtf8-from_is_utf8)) refl refl,
  torn _ _ one_row _ (0 ∷ []) [] (Text (codes "a") ∷ []) (search (arith, refl, IsUtf8-from_is_utf8)) refl refl,
  torn _ _ one_row _ (0 ∷ []) [] (Text [] ∷ []) (search (arith, refl, IsUtf8-from_is_utf8)) refl refl,
  no_mark 1 (0 ∷ 0 ∷ []) (omega arith) (omega arith),
  no_mark 254 (0 ∷ 0 ∷ []) (omega arith) (omega arith),
  no_text (255 ∷ 0 ∷ 0 ∷ []) no_utf8,
  torn _ _ one_row _ (0 ∷ []) [] (Text (codes "a") ∷ Null ∷ []) (search (arith, refl, IsUtf8-from_is_utf8)) refl refl,
)

pub a_text_of_over_a_thousand_bytes_is_no_row : NoRow (0 ∷ 1 ∷ 2 ∷ letters 1001 ++ 0 ∷ 0 ∷ [])
a_text_of_over_a_thousand_bytes_is_no_row = no_text _ too_long
