-- The words of a line.
use Rattle.std.specs.Prelude.{ℕ, ◌==◌, not, List, length, filter, map, slice_get, Option}
use Rattle.std.specs.Borrow.{Bor}
use Rattle.std.specs.List.{slice_split}

-- a blank
abbrev pub blank : ℕ
blank = 32

-- the parts of a line between blanks, the empty ones left out
unfoldable pub line_words : List ℕ → List (List ℕ)
line_words line = filter (λ part. not (length part == 0)) (slice_split (λ b. b == blank) line)

-- the first word of a line, if it has one
abbrev pub first_word : List ℕ → Option (List ℕ)
first_word line = slice_get (line_words line) 0

-- what a list of references to words holds
abbrev pub texts : List (Bor (List ℕ)) → List (List ℕ)
texts words = map (λ word. word.now) words
