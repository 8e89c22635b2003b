-- What it is to take a value from bytes.
use Rattle.std.specs.Prelude.{◌≡◌, ◌≢◌, ℕ, List, ◌++◌}

-- the bytes are no value's spelling
abbrev pub NoSpelling : {X : Type 0} → (X → Type 0) → (X → List ℕ) → List ℕ → Type 0
NoSpelling {X} fits spelling bytes = (x : X) → fits x → bytes ≢ spelling x

-- the bytes begin with no value's spelling
abbrev pub NoPrefix : {X : Type 0} → (X → Type 0) → (X → List ℕ) → List ℕ → Type 0
NoPrefix {X} fits spelling bytes = (x : X) (rest : List ℕ) → fits x → bytes ≢ spelling x ++ rest

-- bytes begin with the spelling of at most one value
abbrev pub One : {X : Type 0} → (X → Type 0) → (X → List ℕ) → Type 0
One {X} fits spelling = (x y : X) (a b : List ℕ) → fits x → fits y → spelling x ++ a ≡ spelling y ++ b → (x ≡ y) × (a ≡ b)

-- a pair is spelled part after part
abbrev pub pair_spelling : {A B : Type 0} → (A → List ℕ) → (B → List ℕ) → A × B → List ℕ
pair_spelling first second p = first p.0 ++ second p.1

-- both parts meet what is asked of them
abbrev pub PairFits : {A B : Type 0} → (A → Type 0) → (B → Type 0) → A × B → Type 0
PairFits first second p = first p.0 × second p.1
