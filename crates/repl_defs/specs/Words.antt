-- The words of the language of columns and predicates, and names of columns.
use Rattle.std.specs.Prelude.{◌≡◌, ℕ, ◌-◌, Bool, false, ◌||◌, codes, List, [], ◌∷◌, map, Some}
use Rattle.std.specs.List.{list_any, position}
use Rattle.std.specs.Str.{bytes_eq}
use Rattle.repl_types.specs.declared.table.ColumnDef.{ColumnDef}

-- a small letter as a capital one
abbrev pub capital : ℕ → ℕ
capital b = b - 32

-- the word is this one, written in small or in capital letters
abbrev pub says : List ℕ → List ℕ → Bool
says spelled word = bytes_eq word spelled || bytes_eq word (map capital spelled)

-- the words that are no names here
abbrev pub reserved : List (List ℕ)
reserved = codes "and" ∷ codes "or" ∷ codes "is" ∷ codes "not" ∷ codes "null" ∷ codes "count" ∷ codes "sum" ∷ codes "min" ∷ codes "max" ∷ []

-- the word is one of these
abbrev pub is_reserved : List ℕ → Bool
is_reserved word = list_any (λ spelled. says spelled word) reserved

-- the word names the column at a place
pub record Names (columns : List ColumnDef) (word : List ℕ) (place : ℕ) : Type 0 where
  pub free : is_reserved word ≡ false
  pub at : position (λ column. bytes_eq word column.name) columns ≡ Some place
