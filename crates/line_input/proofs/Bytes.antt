-- What is left of an input, byte by byte.
use Rattle.std.proofs.Common.{◌≡◌, ℕ, List, ◌∷◌, ◌++◌, Option, Some, None, refl, ap, option_map}
use Rattle.line_input.specs.declared.input.Input.{Input}
use Rattle.line_input.specs.Input.{piece_left, left_of}

-- giving the first byte of the piece takes the first of the bytes left
pub left_of-given : (old new : Input) (byte : ℕ) (later : Option (List ℕ)) → piece_left old ≡ byte ∷ piece_left new → left_of old later ≡ option_map (λ bytes. byte ∷ bytes) (left_of new later)
left_of-given old new byte None e = refl
left_of-given old new byte (Some bytes) e = ap (λ (piece : List ℕ). Some (piece ++ bytes)) e
