-- What a transaction makes of what it sees.
use Rattle.std.specs.Prelude.{◌≡◌, ℕ, List, Option, Some, None, slice_index_or, slice_set}
use Rattle.repl_types.specs.declared.area.Area.{Area}
use Rattle.keep_core.specs.Contents.{Contents, put_at}

-- One server's transaction went on by this step from what it saw. Those of the others see the same.
pub record Works (old new : List (Option (Option Contents))) (s : ℕ) (step : Contents → Contents → Type 0) : Type 0 where
  pub now : Option Contents
  pub is : new ≡ slice_set old s (Some now)
  pub does : (c : Contents) → slice_index_or old s None ≡ Some (Some c) → (d : Contents) × (now ≡ Some d) × step c d

-- the step that sets one key of one table
abbrev pub Sets : Area → ℕ → List ℕ → Option (List ℕ) → Contents → Contents → Type 0
Sets a t key value c d = d ≡ put_at c a t key value
