-- Proofs of how many bytes a number takes, and that numbers have one spelling each. There is nothing to
-- believe here.
use Rattle.std.proofs.Common.{◌≡◌, ℕ, true, false, List, ◌∷◌, ◌++◌, length, take, drop, refl, sym, ap, ◌∙◌}
use Rattle.std.proofs.Math.Seq.{take-append_seam, drop-append_seam}
use Rattle.std.proofs.lemmas.Nat.{from_be_bytes-to_be_bytes_2, from_be_bytes-to_be_bytes_4, from_be_bytes-to_be_bytes_8}
use Rattle.std.specs.Int.{w16, w32, w64, from_be_bytes}
use Rattle.row_codec.specs.Takes.{One}
use Rattle.row_codec.specs.Spelling.{Any, Is8, Is16, Is32, Is64, b8, b16, b32, b64, flag}

-- two bytes
pub length16 : (n : ℕ) → length (b16 n) ≡ 2
unfolding b16
length16 n = refl

-- four bytes
pub length32 : (n : ℕ) → length (b32 n) ≡ 4
unfolding b32
length32 n = refl

-- eight bytes
pub length64 : (n : ℕ) → length (b64 n) ≡ 8
unfolding b64
length64 n = refl

-- equal lists have equal prefixes of one length, and equal rests after them
pub same_prefixes : (s t a b : List ℕ) → length s ≡ length t → s ++ a ≡ t ++ b → (s ≡ t) × (a ≡ b)
same_prefixes s t a b same e =
    let of_t : take (length s) (t ++ b) ≡ t = ap (λ (n : ℕ). take n (t ++ b)) same ∙ take-append_seam t b in
    let after_t : drop (length s) (t ++ b) ≡ b = ap (λ (n : ℕ). drop n (t ++ b)) same ∙ drop-append_seam t b in
    (sym (take-append_seam s a) ∙ ap (take (length s)) e ∙ of_t, sym (drop-append_seam s a) ∙ ap (drop (length s)) e ∙ after_t)

-- eight bytes
pub one64 : One Is64 b64
unfolding b64
one64 x y a b lx ly e = let same = same_prefixes (b64 x) (b64 y) a b refl e in (sym (from_be_bytes-to_be_bytes_8 x lx) ∙ ap (from_be_bytes w64) same.0 ∙ from_be_bytes-to_be_bytes_8 y ly, same.1)

-- four bytes
pub one32 : One Is32 b32
unfolding b32
one32 x y a b lx ly e = let same = same_prefixes (b32 x) (b32 y) a b refl e in (sym (from_be_bytes-to_be_bytes_4 x lx) ∙ ap (from_be_bytes w32) same.0 ∙ from_be_bytes-to_be_bytes_4 y ly, same.1)

-- two bytes
pub one16 : One Is16 b16
unfolding b16
one16 x y a b lx ly e = let same = same_prefixes (b16 x) (b16 y) a b refl e in (sym (from_be_bytes-to_be_bytes_2 x lx) ∙ ap (from_be_bytes w16) same.0 ∙ from_be_bytes-to_be_bytes_2 y ly, same.1)

-- lists that are equal begin alike
pub first_is : (m n : ℕ) (s t : List ℕ) → m ∷ s ≡ n ∷ t → m ≡ n
first_is m n s t e = cc

-- one byte
pub one8 : One Is8 b8
one8 x y a b lx ly e = (first_is x y a b e, ap (drop 1) e)

-- flags
pub one_flag : One Any flag
one_flag false false a b fx fy e = (refl, cc)
one_flag false true a b fx fy e = absurd cc
one_flag true false a b fx fy e = absurd cc
one_flag true true a b fx fy e = (refl, cc)
