-- The tokens of a text.
use Rattle.std.specs.Prelude.{ℕ, zero, suc, ◌+◌, Bool, false, ◌&&◌, ◌||◌, ◌==◌, nat_le, if◌then◌else◌, List, [], ◌∷◌, length, take, drop, Option, Some, None}
use Rattle.std.specs.List.{take_while}
use Rattle.std.specs.Option.{option_map, option_and_then}
use Rattle.repl_types.specs.Name.{is_letter, is_name_byte}
use Rattle.repl_types.specs.ValueText.{quote, backslash, value_of}
use Rattle.repl_types.specs.declared.value.Value.{Value}
use Rattle.repl_types.specs.declared.value.Value.TheVariants as values
use Rattle.repl_definitions.specs.declared.predicate.CompareOp.TheVariants.{Eq, Ne, Lt, Le, Gt, Ge}
use Rattle.repl_defs.specs.declared.token.Token.{Token}
use Rattle.repl_defs.specs.declared.token.Token.TheVariants.{Word, Number, Text, Minus, Plus, Times, Joined, Open, Close, Compare}

-- a letter from A to Z
abbrev pub is_capital : ℕ → Bool
is_capital b = nat_le 65 b && nat_le b 90

-- a digit
abbrev pub is_digit : ℕ → Bool
is_digit b = nat_le 48 b && nat_le b 57

-- a byte of a word
abbrev pub is_word_byte : ℕ → Bool
is_word_byte b = is_name_byte b || is_capital b

-- how many bytes of a text, after its opening quote, there are up to its closing quote and with it, if it has
-- one: a quote that isn't doubled, and has no backslash before it
unfoldable pub quoted_len : List ℕ → Option ℕ
quoted_len [] = None
quoted_len (b ∷ []) = if b == quote then Some 1 else None
quoted_len (b ∷ c ∷ bs) =
    if b == backslash || b == quote && c == quote then option_map (λ n. 2 + n) (quoted_len bs)
    else (if b == quote then Some 1 else option_map (λ n. 1 + n) (quoted_len (c ∷ bs)))

-- a token and what comes after it, if there is a value that is a text
abbrev pub text_token : Option Value → List ℕ → Option (Token × List ℕ)
text_token None rest = None
text_token (Some values.Null) rest = None
text_token (Some (values.Int n)) rest = None
text_token (Some (values.Text t)) rest = Some (Text t, rest)

-- the first token of bytes that begin with a byte that is no blank, and the bytes after it: the longest that
-- there is
abbrev pub first_token : ℕ → List ℕ → Option (Token × List ℕ)
first_token b bs =
    if is_letter b || is_capital b then Some (Word (take_while is_word_byte (b ∷ bs)), drop (length (take_while is_word_byte (b ∷ bs))) (b ∷ bs))
    else (if is_digit b then Some (Number (take_while is_digit (b ∷ bs)), drop (length (take_while is_digit (b ∷ bs))) (b ∷ bs))
    else (if b == quote then option_and_then (λ n. text_token (value_of (quote ∷ take n bs)) (drop n bs)) (quoted_len bs)
    else symbol b bs))
  where
    -- the byte after the first is this one
    next_is : ℕ → List ℕ → Bool
    next_is c [] = false
    next_is c (d ∷ ds) = d == c

    begins_with_digit : List ℕ → Bool
    begins_with_digit [] = false
    begins_with_digit (d ∷ ds) = is_digit d

    less : List ℕ → Option (Token × List ℕ)
    less ds = if next_is 61 ds then Some (Compare Le, drop 1 ds)
        else (if next_is 62 ds then Some (Compare Ne, drop 1 ds) else Some (Compare Lt, ds))

    greater : List ℕ → Option (Token × List ℕ)
    greater ds = if next_is 61 ds then Some (Compare Ge, drop 1 ds) else Some (Compare Gt, ds)

    -- ( ) * + - < = > and ||
    symbol : ℕ → List ℕ → Option (Token × List ℕ)
    symbol c ds =
        if c == 40 then Some (Open, ds)
        else (if c == 41 then Some (Close, ds)
        else (if c == 42 then Some (Times, ds)
        else (if c == 43 then Some (Plus, ds)
        else (if c == 45 then Some (Minus (begins_with_digit ds), ds)
        else (if c == 60 then less ds
        else (if c == 61 then Some (Compare Eq, ds)
        else (if c == 62 then greater ds
        else (if c == 124 && next_is 124 ds then Some (Joined, drop 1 ds) else None))))))))

-- the tokens of at most so many bytes, with blanks between them or none
unfoldable pub tokens_within : ℕ → List ℕ → Option (List Token)
tokens_within n [] = Some []
tokens_within zero (b ∷ bs) = None
tokens_within (suc n) (b ∷ bs) = if b == 32 then tokens_within n bs
    else option_and_then (λ t. option_map (λ ts. t.0 ∷ ts) (tokens_within n t.1)) (first_token b bs)

-- the tokens of a text, if it has any form at all
abbrev pub tokens_of : List ℕ → Option (List Token)
tokens_of bytes = tokens_within (length bytes) bytes
