-- Texts and the order of sequences, worked out by hand.
use Rattle.std.specs.Prelude.{◌≡◌, ℕ, codes, List, [], ◌∷◌, map}
use Rattle.std.proofs.Common.{refl}
use Rattle.std.specs.declared.cmp.Ordering.TheVariants.{Less}
use Rattle.repl_types.specs.Sequence.{hex_digits, sequence_cmp, sequence_text}

-- the position and the sub-number that come first in each row have the text beside them
abbrev HaveTexts : List (ℕ × ℕ × List ℕ) → Type 0
HaveTexts rows = map (λ row. sequence_text (record { position = row.0; sub = row.1 })) rows ≡ map (λ row. row.2) rows

pub a_sequence_is_twenty_digits : HaveTexts (
    (0, 0, codes "00000000000000000000")
    ∷ (1_999_999_999, 1, codes "00000000773593ff0001")
    ∷ (18_446_744_073_709_551_615, 0xabcd, codes "ffffffffffffffffabcd")
    ∷ [])
unfolding hex_digits
a_sequence_is_twenty_digits = refl

pub positions_come_before_sub_numbers : sequence_cmp (record { position = 1; sub = 1 }) (record { position = 2; sub = 0 }) ≡ Less
positions_come_before_sub_numbers = refl
