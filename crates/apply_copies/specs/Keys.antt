-- Keys of rows that are read one after another.
use Rattle.std.specs.Prelude.{◌≡◌, ℕ, List}
use Rattle.std.specs.declared.cmp.Ordering.TheVariants.{Less}
use Rattle.repl_types.specs.Bytes.{bytes_cmp}
use Rattle.repl_types.specs.Sizes.{IsKeySize}
use Rattle.repl_types.specs.Value.{Values}
use Rattle.row_codec.specs.Spelling.{key_spelling, IsKey}

-- The key of a row can be stored.
pub record IsStoredKey (key : Values) : Type 0 where
  pub fits : IsKey key
  pub size : IsKeySize (key_spelling key)

-- The key of a row can be stored, and is after another key.
pub record IsLaterKey (after : List ℕ) (key : Values) : Type 0 where
  pub above : bytes_cmp after (key_spelling key) ≡ Less
  pub stored : IsStoredKey key
