-- Digits of numbers.
use Rattle.std.proofs.Common.{◌≡◌, ℕ, zero, suc, ◌-◌, ◌<◌, ◌/◌, ◌%◌, [], ◌∷◌, ◌++◌, refl, ap, arith}
use Rattle.repl_types.specs.Sequence.{hex_digit, hex_digits}

-- some digits of a number are those of its sixteenth and then its last digit
pub last_apart : (count n : ℕ) → 0 < count → hex_digits count n ≡ hex_digits (count - 1) (n / 16) ++ hex_digit (n % 16) ∷ []
unfolding hex_digits
last_apart zero n some = absurd (omega arith)
last_apart (suc k) n some = let one_fewer : k ≡ suc k - 1 = omega arith in ap (λ (m : ℕ). hex_digits m (n / 16) ++ hex_digit (n % 16) ∷ []) one_fewer

-- of no digits there is no text
pub no_digits : (n : ℕ) → hex_digits 0 n ≡ []
unfolding hex_digits
no_digits n = refl
