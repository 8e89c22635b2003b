-- The text of a value.
use Rattle.std.specs.Prelude.{◌≡◌, ℕ, ◌<◌, ◌≤◌, ◌==◌, nat_le, ◌&&◌, if◌then◌else◌, codes, List, [], ◌∷◌, ◌++◌, length, drop, slice_index, Option, Some, None}
use Rattle.std.specs.Option.{option_map, option_and_then}
use Rattle.std.specs.Fmt.{signed_decimal}
use Rattle.std.specs.Int.{w64}
use Rattle.std.specs.Int.RustNames.{FitsSigned}
use Rattle.std.specs.Str.{IsUtf8, bytes_eq, is_utf8}
use Rattle.repl_types.specs.declared.value.Value.{Value}
use Rattle.repl_types.specs.declared.value.Value.TheVariants.{Null, Int, Text}
use Rattle.repl_types.specs.Numbers.{integer_of}
use Rattle.repl_types.specs.Sizes.{text_limit}

-- ---- the bytes that stand for others

-- '
abbrev pub quote : ℕ
quote = 0x27

-- \
abbrev pub backslash : ℕ
backslash = 0x5c

-- a line feed
abbrev pub line_feed : ℕ
line_feed = 0x0a

-- the letter n
abbrev pub letter_n : ℕ
letter_n = 0x6e

-- ---- writing

-- a byte of a text as it stands between quotes: a quote is doubled, a backslash and a line feed have a
-- backslash before them
abbrev pub escaped_byte : ℕ → List ℕ
escaped_byte b =
    if b == quote then quote ∷ quote ∷ []
    else (if b == backslash then backslash ∷ backslash ∷ []
    else (if b == line_feed then backslash ∷ letter_n ∷ [] else b ∷ []))

-- a text as it stands between quotes
abbrev pub escaped : List ℕ → List ℕ
escaped [] = []
escaped (b ∷ bs) = escaped_byte b ++ escaped bs

-- `null`, the decimal number, or the text in quotes
abbrev pub value_text : Value → List ℕ
value_text Null = codes "null"
value_text (Int n) = signed_decimal n
value_text (Text t) = quote ∷ escaped t ++ quote ∷ []

-- ---- reading

-- the bytes with one more before them, if there are bytes
abbrev pub after_byte : ℕ → Option (List ℕ) → Option (List ℕ)
after_byte b = option_map (λ bs. b ∷ bs)

-- what the bytes after an opening quote say, if a closing quote is the last of them
unfoldable pub unescaped : List ℕ → Option (List ℕ)
unescaped [] = None
unescaped (b ∷ []) = if b == quote then Some [] else None
unescaped (b ∷ c ∷ bs) =
    if b == quote then (if c == quote then after_byte quote (unescaped bs) else None)
    else (if b == backslash then (if c == backslash then after_byte backslash (unescaped bs) else (if c == letter_n then after_byte line_feed (unescaped bs) else None))
    else (if b == line_feed then None else after_byte b (unescaped (c ∷ bs))))

-- the text of bytes that begin with no byte of a text: the empty one if they are the closing quote
abbrev pub text_at_end : List ℕ → Option (List ℕ)
text_at_end quoted = if bytes_eq quoted (quote ∷ []) then Some [] else None

-- the first byte that the bytes between quotes say, and those that say what follows it
pub record IsNextByte (quoted : List ℕ) (byte : ℕ) (after : List ℕ) : Type 0 where
  pub says : unescaped quoted ≡ after_byte byte (unescaped after)
  pub shorter : length after < length quoted

-- a text has at most 1,000 bytes of UTF-8
abbrev pub text_value : List ℕ → Option Value
text_value t = if nat_le (length t) text_limit && is_utf8 t then Some (Text t) else None

-- the value that a word spells
unfoldable pub value_of : List ℕ → Option Value
value_of word =
    if bytes_eq word (codes "null") then Some Null
    else (if slice_index word 0 == quote then option_and_then text_value (unescaped (drop 1 word))
    else option_map (λ n. Int n) (integer_of word))

-- ---- values

-- what a value holds: an integer of 64 bits, or a text of at most 1,000 bytes of UTF-8
abbrev pub IsValue : Value → Type 0
IsValue Null = Unit {0}
IsValue (Int n) = FitsSigned w64 n
IsValue (Text t) = (length t ≤ text_limit) × IsUtf8 t
