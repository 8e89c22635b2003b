-- Numbers as words.
use Rattle.std.specs.Prelude.{ℕ, ◌-◌, ◌^◌, ℤ, pos, negsuc, Bool, ◌&&◌, ◌||◌, not, ◌==◌, nat_lt, nat_le, if◌then◌else◌, List, length, drop, slice_index, Option, Some, None}
use Rattle.std.specs.Str.{all_ascii_digits}
use Rattle.std.specs.Str.Parse.{digits_value}

-- decimal digits, the first of which isn't 0 except in `0` itself
abbrev pub is_numeral : List ℕ → Bool
is_numeral word = nat_lt 0 (length word) && all_ascii_digits word && (not (slice_index word 0 == 48) || length word == 1)

-- a numeral, or `-` and a numeral that isn't 0
abbrev pub is_integer : List ℕ → Bool
is_integer word = if slice_index word 0 == 45 then is_numeral (drop 1 word) && not (slice_index word 1 == 48) else is_numeral word

-- the number from low to high that a word spells
abbrev pub number_of : ℕ → ℕ → List ℕ → Option ℕ
number_of low high word = let n = digits_value 10 word in
    if is_numeral word && nat_le low n && nat_le n high then Some n else None

-- the integer of 64 bits that a word spells: a numeral, or `-` and a numeral that isn't 0
abbrev pub integer_of : List ℕ → Option ℤ
integer_of word = let digits = drop 1 word in
    if slice_index word 0 == 45
    then (if is_numeral digits && nat_lt 0 (digits_value 10 digits) && nat_le (digits_value 10 digits) (2 ^ 63) then Some (negsuc (digits_value 10 digits - 1)) else None)
    else (if is_numeral word && nat_lt (digits_value 10 word) (2 ^ 63) then Some (pos (digits_value 10 word)) else None)
