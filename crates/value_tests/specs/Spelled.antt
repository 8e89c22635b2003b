-- What it is that records and keys stand as bytes, and when bytes stand for none.
use Rattle.std.specs.Prelude.{◌≡◌, ℕ, ◌==◌, false, List, ◌++◌, length}
use Rattle.std.proofs.Common.{sym, ap, ◌∙◌, eq-eqb}
use Rattle.row_codec.specs.Takes.{NoSpelling, One}

-- the parts of a record are in their ranges, and its spelling is the bytes
abbrev pub IsSpelled : {X : Type 0} → (X → Type 0) → (X → List ℕ) → X → List ℕ → Type 0
IsSpelled fits spelling x bytes = fits x × (spelling x ≡ bytes)

-- bytes that begin as a spelling does, and end before it or go on after it, are no spelling
pub torn : {X : Type 0} (fits : X → Type 0) (spelling : X → List ℕ) → One fits spelling
    → (bytes missing beyond : List ℕ) (x : X) → fits x → bytes ++ missing ≡ spelling x ++ beyond
    → (length missing == length beyond) ≡ false → NoSpelling fits spelling bytes
torn fits spelling one bytes missing beyond x fit_x same other y fit_y e =
    let rests = (one y x missing beyond fit_y fit_x (ap (λ (bs : List ℕ). bs ++ missing) (sym e) ∙ same)).1 in
    let lengths = eq-eqb (length missing) (length beyond) (ap length rests) in
    absurd cc
