-- The next key of a table that is in two parts.
use Rattle.std.specs.Prelude.{ℕ, Bool, true, false, List}
use Rattle.std.specs.Option.{option_or}
use Rattle.keep_core.specs.Contents.{Table, IsNextKey, IsLastKey}

-- a table in two parts; at a key that both have, the first counts
abbrev pub parts : Table → Table → Table
parts first second k = option_or (first k) (second k)

-- this is the next key after `after` of the table with its value, or the table has none
abbrev pub IsNext : Table → List ℕ → Bool → List ℕ → List ℕ → Type 0
IsNext t after true key out = IsNextKey t after key out
IsNext t after false key out = IsLastKey t after
