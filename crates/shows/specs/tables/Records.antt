-- What the records of a table are shown as.
use Rattle.std.specs.Prelude.{◌≡◌, ℕ, ◌<◌, ◌≤◌, List, ◌++◌, length, Option}
use Rattle.std.specs.List.{AllByRecursion, flat_map}
use Rattle.repl_types.specs.declared.area.Area.{Area}
use Rattle.keep_core.specs.Contents.{Contents}
use Rattle.keep_core.specs.Revealed.{count_max, Takes, TakesPrefix}
use Rattle.rows_in_order.specs.Rows.{table_from_rows, IsRising}
use Rattle.world_store.specs.SpelledRows.{RowFits}
use Rattle.shows.specs.tables.Replies.{count_line}

-- Rows as they stand in a table that is shown: in the order of their keys, of which none is empty, and not
-- more than can be counted.
pub record AreShown {A X : Type 0} (key_fits : A → Type 0) (key : A → List ℕ) (fits : X → Type 0) (rows : List (A × X)) : Type 0 where
  pub rise : IsRising key rows
  pub fit : AllByRecursion (RowFits key_fits fits) rows
  pub some : AllByRecursion (λ row. 0 < length (key row.0)) rows
  pub few : length rows ≤ count_max

-- the lines of rows, one after another
abbrev pub row_lines : {A X : Type 0} → (A → X → List ℕ) → List (A × X) → List ℕ
row_lines line rows = flat_map (λ row. line row.0 row.1) rows

-- the lines of rows, and then the line that says how many they are
abbrev pub rows_text : {A X : Type 0} → (A → X → List ℕ) → List (A × X) → List ℕ
rows_text line rows = row_lines line rows ++ count_line (length rows)

-- if a table of these contents is made of rows, this follows of their text
abbrev pub FollowsOfText : {A X : Type 0} → (A → Type 0) → (A → List ℕ) → (X → Type 0) → (X → List ℕ) → (A → X → List ℕ) → Area → ℕ → (List ℕ → Type 0) → Contents → Type 0
FollowsOfText {A} {X} key_fits key fits spelling line a t P c = (rows : List (A × X)) → AreShown key_fits key fits rows → c a t ≡ table_from_rows key spelling rows → P (rows_text line rows)

-- if a table of these contents is made of rows, a sink took their text
abbrev pub TakesRows : {A X : Type 0} → (A → Type 0) → (A → List ℕ) → (X → Type 0) → (X → List ℕ) → (A → X → List ℕ) → Area → ℕ → Option (List ℕ) → Option (List ℕ) → Contents → Type 0
TakesRows {A} {X} key_fits key fits spelling line a t before now c = (rows : List (A × X)) → AreShown key_fits key fits rows → c a t ≡ table_from_rows key spelling rows → Takes before now (rows_text line rows)

-- if it is, the sink took a prefix of their text
abbrev pub TakesSomeRows : {A X : Type 0} → (A → Type 0) → (A → List ℕ) → (X → Type 0) → (X → List ℕ) → (A → X → List ℕ) → Area → ℕ → Option (List ℕ) → Option (List ℕ) → Contents → Type 0
TakesSomeRows {A} {X} key_fits key fits spelling line a t before now c = (rows : List (A × X)) → AreShown key_fits key fits rows → c a t ≡ table_from_rows key spelling rows → TakesPrefix before now (rows_text line rows)
