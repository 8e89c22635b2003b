-- Spellings of rows and keys, worked out by hand.
use Rattle.std.specs.Prelude.{◌≡◌, ℕ, pos, neg_ℤ, Bool, true, ◌&&◌, codes, List, [], ◌∷◌, ◌++◌, replicate}
use Rattle.std.proofs.Common.{refl, arith}
use Rattle.std.proofs.Math.Utf8.{encode}
use Rattle.std.proofs.lemmas.Str.{IsUtf8-from_is_utf8}
use Rattle.std.specs.Ordering.{is_lt}
use Rattle.std.specs.Str.{chars, is_utf8}
use Rattle.repl_types.specs.Bytes.{bytes_cmp}
use Rattle.repl_types.specs.Value.{Values, images}
use Rattle.repl_types.specs.declared.value.Value.{Value}
use Rattle.repl_types.specs.declared.value.Value.TheVariants.{Null, Int, Text}
use Rattle.row_codec.specs.Spelling.{b16, b64, row_spelling, IsRow, key_spelling}
use Rattle.value_tests.specs.Spelled.{IsSpelled}

-- ---- rows

pub a_row_of_one_null : IsSpelled IsRow row_spelling (Null ∷ []) (0 ∷ 1 ∷ 0 ∷ [])
unfolding b16
a_row_of_one_null = search (arith, refl)

-- `(1, 'pen', 20)`
abbrev pen : Values
pen = Int (pos 1) ∷ Text (codes "pen") ∷ Int (pos 20) ∷ []

pub a_row_of_each_kind_of_value : IsSpelled IsRow row_spelling pen
    (0 ∷ 3 ∷ 1 ∷ 0x80 ∷ 0 ∷ 0 ∷ 0 ∷ 0 ∷ 0 ∷ 0 ∷ 1 ∷ 2 ∷ codes "pen" ++ 0 ∷ 0 ∷ 1 ∷ 0x80 ∷ 0 ∷ 0 ∷ 0 ∷ 0 ∷ 0 ∷ 0 ∷ 20 ∷ [])
unfolding b16 b64 chars encode is_utf8
a_row_of_each_kind_of_value = search (arith, refl, IsUtf8-from_is_utf8)

-- so many times the letter a
abbrev pub letters : ℕ → List ℕ
letters count = replicate count 0x61

pub a_text_has_at_most_a_thousand_bytes : IsSpelled IsRow row_spelling (Text (letters 1000) ∷ []) (0 ∷ 1 ∷ 2 ∷ letters 1000 ++ 0 ∷ 0 ∷ [])
unfolding b16 chars encode is_utf8
a_text_has_at_most_a_thousand_bytes = search (arith, refl, IsUtf8-from_is_utf8)

-- ---- keys

-- whether the spelling of the key of each value lies before that of the next
abbrev lie_in_order : List Value → Bool
lie_in_order [] = true
lie_in_order (v ∷ []) = true
lie_in_order (v ∷ w ∷ vs) = is_lt (bytes_cmp (key_spelling (v ∷ [])) (key_spelling (w ∷ []))) && lie_in_order (w ∷ vs)

pub keys_lie_in_the_order_of_their_values : lie_in_order (
    Null
    ∷ Int (neg_ℤ (pos 9_223_372_036_854_775_808))
    ∷ Int (neg_ℤ (pos 1))
    ∷ Int (pos 0)
    ∷ Int (pos 1)
    ∷ Int (pos 9_223_372_036_854_775_807)
    ∷ Text []
    ∷ Text (codes "a")
    ∷ Text (codes "a\0")
    ∷ Text (codes "b")
    ∷ []) ≡ true
unfolding b64
keys_lie_in_the_order_of_their_values = refl

pub a_key_has_its_columns_in_the_order_of_the_key : key_spelling (images (2 ∷ 1 ∷ []) pen)
    ≡ 1 ∷ 0x80 ∷ 0 ∷ 0 ∷ 0 ∷ 0 ∷ 0 ∷ 0 ∷ 20 ∷ 2 ∷ codes "pen" ++ 0 ∷ 0 ∷ []
unfolding b64
a_key_has_its_columns_in_the_order_of_the_key = refl
