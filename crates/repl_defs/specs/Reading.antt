-- What a reader of tokens finds in front of them, for the contracts of the reader alone.
use Rattle.std.specs.Prelude.{◌≡◌, ℕ, ℤ, Bool, true, false, IsTrue, if◌then◌else◌, List, [], ◌∷◌, Option, None}
use Rattle.std.specs.List.{position}
use Rattle.std.specs.Option.{option_map}
use Rattle.std.specs.Str.{bytes_eq}
use Rattle.repl_types.specs.Numbers.{integer_of}
use Rattle.repl_types.specs.declared.table.ColumnDef.{ColumnDef}
use Rattle.repl_defs.specs.Words.{is_reserved, says}
use Rattle.repl_defs.specs.declared.token.Token.{Token}
use Rattle.repl_defs.specs.declared.token.Token.TheVariants.{Word, Number, Text, Minus, Plus, Times, Joined, Open, Close, Compare}

-- the place of the column that a word names
unfoldable pub place_named : List ColumnDef → List ℕ → Option ℕ
place_named columns word = if is_reserved word then None else position (λ column. bytes_eq word column.name) columns

-- the integer in front of tokens, if there is one, and the tokens after it
abbrev pub integer_at : List Token → Option (ℤ × List Token)
integer_at (Number ds ∷ ts) = option_map (λ n. (n, ts)) (integer_of ds)
integer_at (Minus true ∷ Number ds ∷ ts) = option_map (λ n. (n, ts)) (integer_of (45 ∷ ds))
integer_at ts = None

-- the next token is `*`
abbrev pub times_follows : List Token → Bool
times_follows [] = false
times_follows (Word word ∷ ts) = false
times_follows (Number ds ∷ ts) = false
times_follows (Text t ∷ ts) = false
times_follows (Minus b ∷ ts) = false
times_follows (Plus ∷ ts) = false
times_follows (Times ∷ ts) = true
times_follows (Joined ∷ ts) = false
times_follows (Open ∷ ts) = false
times_follows (Close ∷ ts) = false
times_follows (Compare op ∷ ts) = false

-- the next token is `(`
abbrev pub open_follows : List Token → Bool
open_follows [] = false
open_follows (Word word ∷ ts) = false
open_follows (Number ds ∷ ts) = false
open_follows (Text t ∷ ts) = false
open_follows (Minus b ∷ ts) = false
open_follows (Plus ∷ ts) = false
open_follows (Times ∷ ts) = false
open_follows (Joined ∷ ts) = false
open_follows (Open ∷ ts) = true
open_follows (Close ∷ ts) = false
open_follows (Compare op ∷ ts) = false

-- the next token is `)`
abbrev pub close_follows : List Token → Bool
close_follows [] = false
close_follows (Word word ∷ ts) = false
close_follows (Number ds ∷ ts) = false
close_follows (Text t ∷ ts) = false
close_follows (Minus b ∷ ts) = false
close_follows (Plus ∷ ts) = false
close_follows (Times ∷ ts) = false
close_follows (Joined ∷ ts) = false
close_follows (Open ∷ ts) = false
close_follows (Close ∷ ts) = true
close_follows (Compare op ∷ ts) = false

-- the next token is a word, this one
abbrev pub word_follows : List ℕ → List Token → Bool
word_follows spelled [] = false
word_follows spelled (Word word ∷ ts) = says spelled word
word_follows spelled (Number ds ∷ ts) = false
word_follows spelled (Text t ∷ ts) = false
word_follows spelled (Minus b ∷ ts) = false
word_follows spelled (Plus ∷ ts) = false
word_follows spelled (Times ∷ ts) = false
word_follows spelled (Joined ∷ ts) = false
word_follows spelled (Open ∷ ts) = false
word_follows spelled (Close ∷ ts) = false
word_follows spelled (Compare op ∷ ts) = false

-- The next token has been taken, a word that says this.
pub record TakesWord (spelled : List ℕ) (before after : List Token) : Type 0 where
  pub word : List ℕ
  pub is : before ≡ Word word ∷ after
  pub says_so : IsTrue (says spelled word)
