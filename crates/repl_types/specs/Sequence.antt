-- Places in a log: their order, and their text.
use Rattle.std.specs.Prelude.{ℕ, zero, suc, ◌/◌, ◌%◌, codes, slice_index, List, [], ◌∷◌, ◌++◌}
use Rattle.std.specs.Ordering.{nat_cmp, ordering_then}
use Rattle.std.specs.declared.cmp.Ordering.{Ordering}
use Rattle.repl_types.specs.declared.sequence.Sequence.{Sequence}

-- by positions, and then by sub-numbers
abbrev pub sequence_cmp : Sequence → Sequence → Ordering
sequence_cmp s t = ordering_then (nat_cmp s.position t.position) (nat_cmp s.sub t.sub)

-- the hexadecimal digit of a number below 16
abbrev pub hex_digit : ℕ → ℕ
hex_digit n = slice_index (codes "0123456789abcdef") n

-- the last hexadecimal digits of a number: as many as the count says, with zeros before them if it has
-- fewer
unfoldable pub hex_digits : ℕ → ℕ → List ℕ
hex_digits zero n = []
hex_digits (suc count) n = hex_digits count (n / 16) ++ hex_digit (n % 16) ∷ []

-- 16 digits of the position, and 4 of the sub-number
abbrev pub sequence_text : Sequence → List ℕ
sequence_text s = hex_digits 16 s.position ++ hex_digits 4 s.sub
