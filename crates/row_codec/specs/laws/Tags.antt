-- Proofs about the tags that spellings begin with. There is nothing to believe here.
use Rattle.std.proofs.Common.{◌≡◌, ◌≢◌, ℕ, false, List, ◌∷◌, eq-eqb}
use Rattle.std.specs.Prelude.{◌==◌}
use Rattle.row_codec.specs.laws.Numbers.{first_is}

-- bytes that begin with one tag begin with no other
pub other_tag : (m n : ℕ) (s t : List ℕ) → m ∷ s ≡ n ∷ t → (m == n) ≡ false → ⊥
other_tag m n s t e other = let same = eq-eqb m n (first_is m n s t e) in absurd cc

-- bytes that begin with one byte don't begin with another
pub other_first : (m n : ℕ) (s t : List ℕ) → m ≢ n → m ∷ s ≢ n ∷ t
other_first m n s t other e = other (first_is m n s t e)
