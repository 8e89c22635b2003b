-- The order of values.
use Rattle.std.specs.Prelude.{ℕ, ◌+◌, ◌==◌, List, length, map, count_by, slice_index_or}
use Rattle.std.specs.Ordering.{int_cmp}
use Rattle.std.specs.Cmp.Lexicographic.{slice_cmp}
use Rattle.std.specs.declared.cmp.Ordering.{Ordering}
use Rattle.std.specs.declared.cmp.Ordering.TheVariants.{Less, Equal, Greater}
use Rattle.repl_types.specs.Bytes.{bytes_cmp}
use Rattle.repl_types.specs.declared.value.Value.{Value}
use Rattle.repl_types.specs.declared.value.Value.TheVariants.{Null, Int, Text}

-- NULL, then the integers by number, then the texts by bytes
abbrev pub value_cmp : Value → Value → Ordering
value_cmp Null Null = Equal
value_cmp Null (Int n) = Less
value_cmp Null (Text t) = Less
value_cmp (Int n) Null = Greater
value_cmp (Int n) (Int m) = int_cmp n m
value_cmp (Int n) (Text t) = Less
value_cmp (Text t) Null = Greater
value_cmp (Text t) (Int n) = Greater
value_cmp (Text t) (Text u) = bytes_cmp t u

-- keys by their columns, in order
abbrev pub key_cmp : List Value → List Value → Ordering
key_cmp = slice_cmp value_cmp

-- the values of a row, or of a key
abbrev pub Values : Type 0
Values = List Value

-- the values of a row at these places
abbrev pub images : List ℕ → Values → Values
images places row = map (λ place. slice_index_or row place Null) places

-- how many bytes a value takes in a stored key: one for its kind; of an integer 8 more; of a text its
-- bytes, one more for each zero among them, and two at its end
abbrev pub spelled_len : Value → ℕ
spelled_len Null = 1
spelled_len (Int n) = 9
spelled_len (Text t) = 3 + length t + count_by (λ b. b == 0) t

-- the most bytes that a value takes there: those of a text of 1,000 zeros
abbrev pub spelled_limit : ℕ
spelled_limit = 2003
