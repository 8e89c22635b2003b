-- Names.
use Rattle.std.proofs.Common.{◌≡◌, ℕ, ◌<◌, ◌≤◌, true, List, [], ◌∷◌, length, get_or, drop, refl, sym, arith, Some, IsTrue}
use Rattle.std.specs.List.{list_all}
use Rattle.std.specs.Str.{IsAscii, IsUtf8}
use Rattle.std.proofs.lemmas.Bool.{le-leb, and_parts}
use Rattle.std.proofs.lemmas.Bool.Decides.{nat_tests}
use Rattle.std.proofs.lemmas.Option.{cond_some}
use Rattle.std.proofs.lemmas.Str.{IsUtf8-nil, IsUtf8-from_ascii}
use Rattle.std.proofs.lemmas.Str.Ascii.{IsAscii-nil, IsAscii-cons}
use Rattle.repl_types.specs.Name.{is_letter, is_name_byte, is_name, name_of}
use Rattle.repl_types.specs.Sizes.{name_limit}

-- a letter and bytes of names are a name, if they are at most 32
pub name_after_letter : (bytes : List ℕ) → 0 < length bytes → 97 ≤ get_or bytes 0 0 → get_or bytes 0 0 ≤ 122 → length bytes ≤ name_limit → list_all is_name_byte (drop 1 bytes) ≡ is_name bytes
name_after_letter [] some low high short = absurd (omega arith)
name_after_letter (b ∷ bs) some low high short = rw (le-leb 97 b low, le-leb b 122 high, le-leb (length (b ∷ bs)) name_limit short) refl

-- a byte of names is ASCII
name_byte_small : (b : ℕ) → is_name_byte b ≡ true → b < 128
name_byte_small b h = grind (arith, nat_tests)

-- bytes of names are ASCII
name_bytes_small : (bs : List ℕ) → list_all is_name_byte bs ≡ true → IsAscii bs
name_bytes_small [] h = IsAscii-nil
name_bytes_small (b ∷ bs) h = let p = and_parts _ _ h in IsAscii-cons b bs (name_byte_small b p.0) (name_bytes_small bs p.1)

-- a letter is ASCII
letter_small : (b : ℕ) → is_letter b ≡ true → b < 128
letter_small b h = grind (arith, nat_tests)

-- a name is UTF-8
pub name_is_text : (bytes : List ℕ) → is_name bytes ≡ true → IsUtf8 bytes
name_is_text [] h = IsUtf8-nil
name_is_text (b ∷ bs) h =
    let p = and_parts _ _ h in
    IsUtf8-from_ascii (b ∷ bs) (IsAscii-cons b bs (letter_small b (and_parts _ _ p.0).0) (name_bytes_small bs p.1))

-- what `name_of` finds is the bytes, and they are a name
pub name_found : (bytes name : List ℕ) → name_of bytes ≡ Some name → (name ≡ bytes) × IsTrue (is_name name)
name_found bytes name h = let p = cond_some (is_name bytes) bytes name h in (sym p.1, rw (← p.1) p.0)

-- a name is found again
pub name_again : (name : List ℕ) → IsTrue (is_name name) → name_of name ≡ Some name
name_again name h = rw h refl
