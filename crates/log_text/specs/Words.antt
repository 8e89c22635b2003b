-- The words of a line.
use Rattle.std.specs.Prelude.{◌≢◌, ℕ, Bool, false, not, ◌&&◌, ◌==◌, nat_lt, if◌then◌else◌, List, [], ◌∷◌, length, filter}
use Rattle.std.specs.List.{onto_first}
use Rattle.repl_types.specs.ValueText.{quote}

-- a blank
abbrev pub blank : ℕ
blank = 0x20

-- whether the next byte stands between quotes: a quote opens, and the next one closes
abbrev pub quoted_after : Bool → ℕ → Bool
quoted_after quoted b = if b == quote then not quoted else quoted

-- whether a byte ends a part: a blank that doesn't stand between quotes
abbrev pub is_end : Bool → ℕ → Bool
is_end quoted b = b == blank && not quoted

-- what stands between the blanks that end parts, with the empty parts
abbrev pub parts : Bool → List ℕ → List (List ℕ)
parts quoted [] = [] ∷ []
parts quoted (b ∷ bs) = if is_end quoted b then [] ∷ parts false bs else onto_first b (parts (quoted_after quoted b) bs)

-- the parts that aren't empty
unfoldable pub words : List ℕ → List (List ℕ)
words line = filter (λ part. nat_lt 0 (length part)) (parts false line)

-- the line is empty, or its first byte isn't a blank
abbrev pub StartsNoBlank : List ℕ → Type 0
StartsNoBlank [] = Unit {0}
StartsNoBlank (b ∷ bs) = b ≢ blank
