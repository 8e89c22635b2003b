-- Proofs of how many bytes numbers, names and keys take. There is nothing to believe here.
use Rattle.std.proofs.Common.{◌≡◌, ℕ, ◌<◌, ◌≤◌, Bool, true, false, List, [], ◌∷◌, length, Option, Some, None, refl, arith, length-append}
use Rattle.std.proofs.lemmas.Bool.{and_parts, leb-true}
use Rattle.repl_types.specs.Sizes.{key_limit, name_limit, IsKeySize, IsValueSize}
use Rattle.repl_types.specs.declared.record.SetId.{SetId}
use Rattle.row_codec.specs.Spelling.{Is32, Is64, IsName, IsSet, IsOrigin, b32, b64, flag, short_text, set_spelling, origin}
use Rattle.row_codec.specs.laws.Numbers.{length32, length64}

-- bytes of these lengths may be a key
pub key_size : (bytes : List ℕ) → 0 < length bytes → length bytes ≤ key_limit → IsKeySize bytes
key_size bytes some short = record { some = some; short = short }

-- numbers of four bytes
pub key32 : (n : ℕ) → Is32 n → IsKeySize (b32 n)
key32 n fits = key_size (b32 n) (omega (arith, length32 n)) (omega (arith, length32 n))

-- numbers of eight bytes
pub key64 : (n : ℕ) → Is64 n → IsKeySize (b64 n)
key64 n fits = key_size (b64 n) (omega (arith, length64 n)) (omega (arith, length64 n))

-- they may be a value too
pub value64 : (n : ℕ) → IsValueSize (b64 n)
value64 n = omega (arith, length64 n)

-- a name has at most 32 bytes
pub name_length : (name : List ℕ) → IsName name → length name ≤ name_limit
name_length [] fits = omega arith
name_length (b ∷ bs) fits = leb-true (length (b ∷ bs)) name_limit (and_parts _ _ (and_parts _ _ fits).0).1

-- names
pub key_name : (name : List ℕ) → IsName name → IsKeySize (short_text name)
key_name name fits = key_size (short_text name) (omega arith) (omega (arith, name_length name fits))

-- the name of a set takes at most 66 bytes
set_length : (set : SetId) → IsSet set → length (set_spelling set) ≤ 66
set_length set fits = omega (arith, length-append (short_text set.qual) (short_text set.name), name_length set.qual fits.0, name_length set.name fits.1)

-- names of sets
pub key_set : (set : SetId) → IsSet set → IsKeySize (set_spelling set)
key_set set fits = key_size (set_spelling set) (omega (arith, length-append (short_text set.qual) (short_text set.name))) (omega (arith, set_length set fits))

-- an origin takes at most 67 bytes
pub origin_length : (set : Option SetId) → IsOrigin set → length (origin set) ≤ 67
origin_length None fits = omega arith
origin_length (Some set) fits = omega (arith, set_length set fits)

-- a flag takes a byte
pub length_flag : (b : Bool) → length (flag b) ≡ 1
length_flag false = refl
length_flag true = refl
