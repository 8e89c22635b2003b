-- What is said of an input of which the source may reveal nothing.
use Rattle.std.specs.Prelude.{ℕ, List, Option, Some, None}

-- Something holds of what was read: of the bytes that the source has left, if it reveals them, and of some bytes, if it
-- doesn't.
abbrev pub OfInput : Option (List ℕ) → (List ℕ → Type 0) → Type 0
OfInput None P = (bytes : List ℕ) × P bytes
OfInput (Some bytes) P = P bytes
