-- What `num_args` makes of a range.
use Rattle.std.proofs.Common.{◌≡◌, ◌∙◌, ap, ap₂, ℕ, Option, Some, None, max}
use Rattle.std.specs.Option.{IsSomeAnd}
use Rattle.clap.specs.declared.builder.range.ValueRange.{ValueRange}

-- the counts of values from one number to another
abbrev counts : ℕ → ℕ → ValueRange
counts low high = record { start_inclusive = low; end_inclusive = max high low }

-- what is said of a range by its ends is said by the numbers that these are
pub counts_of : (range : Option ValueRange) (low high a b : ℕ) → IsSomeAnd range (λ r. r ≡ counts low high) → low ≡ a → high ≡ b → range ≡ Some (counts a b)
counts_of None low high a b is p q = absurd is
counts_of (Some r) low high a b is p q = ap Some (is ∙ ap₂ counts p q)
