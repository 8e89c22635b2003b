-- Spellings worked out by hand.
use Rattle.std.proofs.Common.{◌≡◌, [], ◌∷◌, refl}
use Rattle.std.specs.Prelude.{pos}
use Rattle.repl_types.specs.declared.value.Value.TheVariants.{Int, Text}
use Rattle.row_codec.specs.Spelling.{b16, b64, row_spelling}

-- a row of an integer, a text and an integer
pub row_worked : row_spelling (Int (pos 1) ∷ Text (112 ∷ 101 ∷ 110 ∷ []) ∷ Int (pos 20) ∷ []) ≡ 0 ∷ 3 ∷ 1 ∷ 128 ∷ 0 ∷ 0 ∷ 0 ∷ 0 ∷ 0 ∷ 0 ∷ 1 ∷ 2 ∷ 112 ∷ 101 ∷ 110 ∷ 0 ∷ 0 ∷ 1 ∷ 128 ∷ 0 ∷ 0 ∷ 0 ∷ 0 ∷ 0 ∷ 0 ∷ 20 ∷ []
unfolding b16 b64
row_worked = refl
