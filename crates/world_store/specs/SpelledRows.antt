-- Rows whose keys and records have spellings, as they stand in a table.
use Rattle.std.specs.Prelude.{◌≡◌, ℕ, ◌<◌, ◌≤◌, List, length}
use Rattle.std.specs.List.{AllByRecursion}
use Rattle.rows_in_order.specs.Rows.{IsRising}

-- the most rows of a table of definitions: a server has at most this many tables, and sets at each side
abbrev pub definition_limit : ℕ
definition_limit = 256

-- the bytes spell a thing of the kind
abbrev pub Spells : {X : Type 0} → (X → Type 0) → (X → List ℕ) → List ℕ → Type 0
Spells {X} fits spelling bytes = (x : X) × fits x × (bytes ≡ spelling x)

-- the key and the record have spellings
abbrev pub RowFits : {A X : Type 0} → (A → Type 0) → (X → Type 0) → A × X → Type 0
RowFits key_fits fits row = key_fits row.0 × fits row.1

-- Rows as they stand in a table of definitions: in the order of their keys, of which none is empty, and no
-- more than there may be.
pub record AreRows {A X : Type 0} (key_fits : A → Type 0) (key : A → List ℕ) (fits : X → Type 0) (rows : List (A × X)) : Type 0 where
  pub rise : IsRising key rows
  pub fit : AllByRecursion (RowFits key_fits fits) rows
  pub some : AllByRecursion (λ row. 0 < length (key row.0)) rows
  pub few : length rows ≤ definition_limit
