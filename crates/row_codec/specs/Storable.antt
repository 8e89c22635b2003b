-- What may be stored.
use Rattle.std.specs.Prelude.{ℕ, List}
use Rattle.repl_types.specs.Sizes.{IsValueSize}

-- a record that has a spelling, which is no longer than a stored value may be
abbrev pub IsStorable : {X : Type 0} → (X → Type 0) → (X → List ℕ) → X → Type 0
IsStorable has_spelling spelling x = has_spelling x × IsValueSize (spelling x)
