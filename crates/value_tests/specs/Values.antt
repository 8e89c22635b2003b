-- Spellings of values, numbers and names, worked out by hand.
use Rattle.std.specs.Prelude.{◌≡◌, ℕ, pos, neg_ℤ, Bool, true, false, not, codes, List, [], ◌∷◌, ◌++◌, map, replicate, Option, Some, None, is_some}
use Rattle.std.proofs.Common.{refl}
use Rattle.std.specs.Fmt.{digits}
use Rattle.std.specs.List.{list_all}
use Rattle.std.proofs.Math.Utf8.{encode}
use Rattle.std.specs.Str.{chars, encode_utf8_all, is_utf8}
use Rattle.repl_types.specs.Name.{is_name, name_of}
use Rattle.repl_types.specs.Numbers.{number_of}
use Rattle.repl_types.specs.ValueText.{value_of, value_text, unescaped}
use Rattle.repl_types.specs.declared.value.Value.{Value}
use Rattle.repl_types.specs.declared.value.Value.TheVariants.{Null, Int, Text}

-- ---- values

-- each word spells the value beside it, and is the text of this value
abbrev AreSpelled : List (List ℕ × Value) → Type 0
AreSpelled rows =
    (map (λ row. value_of row.0) rows ≡ map (λ row. Some row.1) rows)
    × (map (λ row. value_text row.1) rows ≡ map (λ row. row.0) rows)

pub integers_have_one_spelling : AreSpelled (
    (codes "0", Int (pos 0))
    ∷ (codes "7", Int (pos 7))
    ∷ (codes "-1", Int (neg_ℤ (pos 1)))
    ∷ (codes "1200", Int (pos 1200))
    ∷ (codes "9223372036854775807", Int (pos 9_223_372_036_854_775_807))
    ∷ (codes "-9223372036854775808", Int (neg_ℤ (pos 9_223_372_036_854_775_808)))
    ∷ [])
unfolding digits unescaped value_of
integers_have_one_spelling = (refl, refl)

pub texts_have_one_spelling : AreSpelled (
    (codes "''", Text [])
    ∷ (codes "'null'", Text (codes "null"))
    ∷ (codes "'it''s'", Text (codes "it's"))
    ∷ (codes "'a\\\\b\\nc'", Text (codes "a\\b\nc"))
    ∷ (codes "'\\\\n'", Text (codes "\\n"))
    ∷ (encode_utf8_all (codes "'größe €'"), Text (encode_utf8_all (codes "größe €")))
    ∷ [])
unfolding chars encode is_utf8 unescaped value_of
texts_have_one_spelling = (refl, refl)

pub null_has_one_spelling : AreSpelled ((codes "null", Null) ∷ [])
unfolding value_of
null_has_one_spelling = (refl, refl)

-- whether no word spells a value
abbrev spell_no_values : List (List ℕ) → Bool
spell_no_values = list_all (λ word. not (is_some (value_of word)))

pub other_words_spell_no_value : spell_no_values (
    []
    ∷ codes "-"
    ∷ codes "-0"
    ∷ codes "007"
    ∷ codes "+7"
    ∷ codes "--1"
    ∷ codes "1 "
    ∷ codes "9223372036854775808"
    ∷ codes "-9223372036854775809"
    ∷ codes "NULL"
    ∷ codes "a"
    ∷ codes "'"
    ∷ codes "'a"
    ∷ codes "'a'b'"
    ∷ codes "'a''"
    ∷ codes "'a\\'"
    ∷ codes "'\\t'"
    ∷ codes "'a\nb'"
    ∷ (0x27 ∷ 0xc3 ∷ 0x27 ∷ [])
    ∷ []) ≡ true
unfolding chars is_utf8 unescaped value_of
other_words_spell_no_value = refl

-- whether so many letters in quotes spell a value
abbrev spells_letters : ℕ → Bool
spells_letters count = is_some (value_of (codes "'" ++ replicate count 0x78 ++ codes "'"))

pub a_text_has_at_most_1000_bytes : (spells_letters 1000 ≡ true) × (spells_letters 1001 ≡ false)
unfolding chars encode is_utf8 unescaped value_of
a_text_has_at_most_1000_bytes = (refl, refl)

-- ---- numbers

-- each word spells, between the two bounds beside it, the number that comes last in its row
abbrev SpellNumbers : List (List ℕ × ℕ × ℕ × Option ℕ) → Type 0
SpellNumbers rows = map (λ row. number_of row.1 row.2 row.0) rows ≡ map (λ row. row.3) rows

pub numbers_stand_within_bounds : SpellNumbers (
    (codes "0", 0, 9, Some 0)
    ∷ (codes "4", 5, 9, None)
    ∷ (codes "5", 5, 9, Some 5)
    ∷ (codes "9", 5, 9, Some 9)
    ∷ (codes "10", 5, 9, None)
    ∷ (codes "05", 5, 9, None)
    ∷ ([], 0, 9, None)
    ∷ (codes "18446744073709551615", 0, 18_446_744_073_709_551_615, Some 18_446_744_073_709_551_615)
    ∷ (codes "18446744073709551616", 0, 18_446_744_073_709_551_615, None)
    ∷ [])
numbers_stand_within_bounds = refl

-- ---- names

-- these are names, and are found to be
abbrev AreNames : List (List ℕ) → Type 0
AreNames texts = (list_all is_name texts ≡ true) × (map name_of texts ≡ map (λ text. Some text) texts)

-- none of these is a name, nor is found to be
abbrev AreNoNames : List (List ℕ) → Type 0
AreNoNames texts = (list_all (λ text. not (is_name text)) texts ≡ true) × (map name_of texts ≡ map (λ text. None) texts)

pub names_are_32_small_letters_digits_and_underscores : AreNames (
    codes "a"
    ∷ codes "s1"
    ∷ codes "line_items"
    ∷ codes "abcdefghijklmnopqrstuvwxyz_01234"
    ∷ [])
names_are_32_small_letters_digits_and_underscores = (refl, refl)

pub other_texts_are_no_names : AreNoNames (
    []
    ∷ codes "1a"
    ∷ codes "_a"
    ∷ codes "Orders"
    ∷ codes "a-b"
    ∷ encode_utf8_all (codes "é")
    ∷ codes "abcdefghijklmnopqrstuvwxyz_012345"
    ∷ [])
unfolding encode
other_texts_are_no_names = (refl, refl)
