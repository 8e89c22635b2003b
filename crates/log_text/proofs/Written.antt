-- The words of a line that is written are those that it was written from.
use Rattle.std.proofs.Common.{◌≡◌, ◌≢◌, ℕ, suc, ◌^◌, ◌<◌, Bool, true, false, cond, List, [], ◌∷◌, ◌++◌, length, refl, sym, ap, ◌∙◌, inl, inr, append_assoc, arith, ne_eqb, pos, negsuc, IsTrue}
use Rattle.std.specs.Prelude.{not, ◌&&◌, ◌==◌, codes, nat_lt, filter}
use Rattle.std.specs.Char.{is_ascii_digit}
use Rattle.std.specs.Fmt.{decimal, signed_decimal}
use Rattle.std.specs.List.{onto_first, list_all, All}
use Rattle.std.specs.Str.{all_ascii_digits}
use Rattle.std.proofs.lemmas.Bool.{and_parts, and_from, cases_eq, ltb-true}
use Rattle.std.proofs.lemmas.Bool.Decides.{nat_tests}
use Rattle.std.proofs.lemmas.List.{append-nil}
use Rattle.std.proofs.lemmas.List.Elements.{All-head, All-tail}
use Rattle.repl_types.specs.declared.value.Value.{Value}
use Rattle.repl_types.specs.declared.value.Value.TheVariants.{Null, Int, Text}
use Rattle.repl_types.specs.Name.{is_letter, is_name_byte, is_name}
use Rattle.repl_types.specs.ValueText.{escaped_byte, escaped, value_text, IsValue}
use Rattle.repl_types.specs.laws.Numbers.{decimal_is_numeral}
use Rattle.log_text.specs.Words.{is_end, quoted_after, parts, words}
use Rattle.log_text.specs.RecordText.{spaced, line_of}
use Rattle.log_text.proofs.Parts.{with_front, parts_more, first_word}

-- ---- parts with bytes before them

-- a byte and then bytes before the parts
onto_front : (b : ℕ) (front : List ℕ) (ps : List (List ℕ)) → onto_first b (with_front front ps) ≡ with_front (b ∷ front) ps
onto_front b front [] = refl
onto_front b front (p ∷ ps) = refl

-- two bytes before the parts
two_onto : (b c : ℕ) (ps : List (List ℕ)) → onto_first b (onto_first c ps) ≡ with_front (b ∷ c ∷ []) ps
two_onto b c [] = refl
two_onto b c (p ∷ ps) = refl

-- one byte before the parts
one_onto : (b : ℕ) (ps : List (List ℕ)) → onto_first b ps ≡ with_front (b ∷ []) ps
one_onto b [] = refl
one_onto b (p ∷ ps) = refl

-- bytes and then bytes before the parts
front_front : (front more : List ℕ) (ps : List (List ℕ)) → with_front front (with_front more ps) ≡ with_front (front ++ more) ps
front_front front more [] = refl
front_front front more (p ∷ ps) = ap (λ (part : List ℕ). part ∷ ps) (sym (append_assoc front more p))

-- nothing before parts of which one has a byte
none_onto : (b : ℕ) (ps : List (List ℕ)) → with_front [] (onto_first b ps) ≡ onto_first b ps
none_onto b [] = refl
none_onto b (p ∷ ps) = refl

-- nothing before the parts
none_front : (quoted : Bool) (bs : List ℕ) → with_front [] (parts quoted bs) ≡ parts quoted bs
none_front quoted [] = refl
none_front quoted (b ∷ bs) = go (is_end quoted b)
  where
    go : (test : Bool) → with_front [] (cond test ([] ∷ parts false bs) (onto_first b (parts (quoted_after quoted b) bs))) ≡ cond test ([] ∷ parts false bs) (onto_first b (parts (quoted_after quoted b) bs))
    go true = refl
    go false = none_onto b (parts (quoted_after quoted b) bs)

-- ---- words that a line gives whole

-- a word that isn't empty, and whose bytes stand before the parts of what follows it
pub record Whole (word : List ℕ) : Type 0 where
  pub some : 0 < length word
  pub in_front : (rest : List ℕ) → parts false (word ++ rest) ≡ with_front word (parts false rest)

-- neither a blank nor a quote
abbrev pub is_plain : ℕ → Bool
is_plain b = not (b == 32) && not (b == 39)

-- a plain byte ends no part
plain_goes : (b : ℕ) → is_plain b ≡ true → is_end false b ≡ false
plain_goes b h = grind (arith, nat_tests)

-- and opens no quote
plain_unquoted : (b : ℕ) → is_plain b ≡ true → quoted_after false b ≡ false
plain_unquoted b h = grind (arith, nat_tests)

-- plain bytes stand before the parts of what follows them
plain_front : (word rest : List ℕ) → list_all is_plain word ≡ true → parts false (word ++ rest) ≡ with_front word (parts false rest)
plain_front [] rest h = sym (none_front false rest)
plain_front (b ∷ bs) rest h =
    let p = and_parts _ _ h in
    parts_more false b (bs ++ rest) (plain_goes b p.0) ∙ ap (λ (q : Bool). onto_first b (parts q (bs ++ rest))) (plain_unquoted b p.0)
    ∙ ap (onto_first b) (plain_front bs rest p.1) ∙ onto_front b bs (parts false rest)

-- a word of plain bytes
pub plain_whole : (word : List ℕ) → 0 < length word → list_all is_plain word ≡ true → Whole word
plain_whole word some h = record { some = some; in_front = λ rest. plain_front word rest h }

-- ---- numbers and names

-- a digit is plain
digit_plain : (b : ℕ) → is_ascii_digit b ≡ true → is_plain b ≡ true
digit_plain b h = grind (arith, nat_tests)

-- so are digits
digits_plain : (word : List ℕ) → all_ascii_digits word ≡ true → list_all is_plain word ≡ true
digits_plain [] h = refl
digits_plain (b ∷ bs) h = let p = and_parts _ _ h in and_from _ _ (digit_plain b p.0) (digits_plain bs p.1)

-- a number's decimal is plain
decimal_plain : (n : ℕ) → n < 2 ^ 64 → (0 < length (decimal n)) × (list_all is_plain (decimal n) ≡ true)
decimal_plain n small =
    let p = and_parts _ _ (and_parts _ _ (decimal_is_numeral n small)).0 in
    (ltb-true 0 (length (decimal n)) p.0, digits_plain (decimal n) p.1)

-- the decimal of a number is whole
pub decimal_whole : (n : ℕ) → n < 2 ^ 64 → Whole (decimal n)
decimal_whole n small = let p = decimal_plain n small in plain_whole (decimal n) p.0 p.1

-- a letter is plain
letter_plain : (b : ℕ) → is_letter b ≡ true → is_plain b ≡ true
letter_plain b h = grind (arith, nat_tests)

-- a byte of a name is plain
name_byte_plain : (b : ℕ) → is_name_byte b ≡ true → is_plain b ≡ true
name_byte_plain b h = grind (arith, nat_tests)

-- so are bytes of a name
name_bytes_plain : (bs : List ℕ) → list_all is_name_byte bs ≡ true → list_all is_plain bs ≡ true
name_bytes_plain [] h = refl
name_bytes_plain (b ∷ bs) h = let p = and_parts _ _ h in and_from _ _ (name_byte_plain b p.0) (name_bytes_plain bs p.1)

-- a name is whole
pub name_whole : (name : List ℕ) → IsTrue (is_name name) → Whole name
name_whole [] h = absurd cc
name_whole (b ∷ bs) h =
    let p = and_parts _ _ h in
    plain_whole (b ∷ bs) (omega arith) (and_from _ _ (letter_plain b (and_parts _ _ p.0).0) (name_bytes_plain bs p.1))

-- ---- values

-- a byte of a text, as it is written between quotes
byte_front : (b : ℕ) (rest : List ℕ) → parts true (escaped_byte b ++ rest) ≡ with_front (escaped_byte b) (parts true rest)
byte_front b rest = elim (cases_eq b 39) [
  | inl quote ↦ rw quote (two_onto 39 39 (parts true rest))
  | inr no_quote ↦ elim (cases_eq b 92) [
    | inl backslash ↦ rw backslash (two_onto 92 92 (parts true rest))
    | inr no_backslash ↦ elim (cases_eq b 10) [
      | inl feed ↦ rw feed (two_onto 92 110 (parts true rest))
      | inr no_feed ↦ rw (ne_eqb b 39 no_quote, ne_eqb b 92 no_backslash, ne_eqb b 10 no_feed) (itself no_quote)
    ]
  ]
]
  where
    itself : b ≢ 39 → parts true (b ∷ rest) ≡ with_front (b ∷ []) (parts true rest)
    itself no_quote =
        parts_more true b rest (grind (arith, nat_tests)) ∙ ap (λ (q : Bool). onto_first b (parts q rest)) (grind (arith, nat_tests)) ∙ one_onto b (parts true rest)

-- a text, as it is written between quotes
text_front : (t rest : List ℕ) → parts true (escaped t ++ rest) ≡ with_front (escaped t) (parts true rest)
text_front [] rest = sym (none_front true rest)
text_front (b ∷ bs) rest =
    ap (parts true) (append_assoc (escaped_byte b) (escaped bs) rest) ∙ byte_front b (escaped bs ++ rest)
    ∙ ap (with_front (escaped_byte b)) (text_front bs rest) ∙ front_front (escaped_byte b) (escaped bs) (parts true rest)

-- a text in quotes
quoted_front : (t rest : List ℕ) → parts false ((39 ∷ escaped t ++ 39 ∷ []) ++ rest) ≡ with_front (39 ∷ escaped t ++ 39 ∷ []) (parts false rest)
quoted_front t rest =
    ap (λ (bs : List ℕ). onto_first 39 (parts true bs)) (append_assoc (escaped t) (39 ∷ []) rest) ∙ ap (onto_first 39) (text_front t (39 ∷ rest))
    ∙ ap (λ (ps : List (List ℕ)). onto_first 39 (with_front (escaped t) ps)) (one_onto 39 (parts false rest))
    ∙ ap (onto_first 39) (front_front (escaped t) (39 ∷ []) (parts false rest)) ∙ onto_front 39 (escaped t ++ 39 ∷ []) (parts false rest)

-- the text of a value is whole
pub value_whole : (v : Value) → IsValue v → Whole (value_text v)
value_whole Null is = plain_whole (codes "null") (omega arith) refl
value_whole (Int (pos n)) is = decimal_whole n (omega (arith, is.sfits))
value_whole (Int (negsuc n)) is = plain_whole (signed_decimal (negsuc n)) (omega arith) (and_from _ _ refl (decimal_plain (suc n) (omega (arith, is.sfits))).1)
value_whole (Text t) is = record { some = omega arith; in_front = quoted_front t }

-- ---- lines

-- whether a part has bytes
abbrev has_bytes : List ℕ → Bool
has_bytes part = nat_lt 0 (length part)

-- the words of a line are the whole words that it was written from
pub words-line_of : (word : List ℕ) (ws : List (List ℕ)) → Whole word → All Whole ws → words (line_of (word ∷ ws)) ≡ word ∷ ws
unfolding words
words-line_of word [] whole all =
    ap (filter has_bytes) (whole.in_front []) ∙ ap (λ (front : List ℕ). filter has_bytes (front ∷ [])) (append-nil word) ∙ first_word word [] whole.some
words-line_of word (w ∷ ws) whole all =
    ap (filter has_bytes) (whole.in_front (spaced (w ∷ ws))) ∙ ap (λ (front : List ℕ). filter has_bytes (front ∷ parts false (w ++ spaced ws))) (append-nil word)
    ∙ first_word word (parts false (w ++ spaced ws)) whole.some ∙ ap (λ (more : List (List ℕ)). word ∷ more) (words-line_of w ws (All-head Whole w ws all) (All-tail Whole w ws all))
