-- What removing the rows of a target, one after another, makes of contents.
use Rattle.std.specs.Prelude.{◌≡◌, ℕ, List, [], ◌∷◌, Option, Some, None}
use Rattle.std.specs.declared.cmp.Ordering.TheVariants.{Less}
use Rattle.repl_types.specs.Bytes.{bytes_cmp}
use Rattle.repl_types.specs.Value.{Values}
use Rattle.repl_types.specs.declared.area.Area.TheVariants as areas
use Rattle.keep_core.specs.Contents.{Contents, Table, IsLastKey, put_at, with_table}
use Rattle.row_codec.specs.Spelling.{key_spelling}
use Rattle.site_store.specs.Damage.{ShownBefore}
use Rattle.apply_copies.specs.Rules.{target_rules}

-- The first row after a key was removed, which was this one; or there is none.
abbrev pub ClearsNext : ℕ → List ℕ → Option Values → Contents → Contents → Type 0
ClearsNext number after None c d = (d ≡ c) × IsLastKey (c areas.Target number) after
ClearsNext number after (Some key) c d = (d ≡ put_at c areas.Target number (key_spelling key) None)
    × ((q : List ℕ) → bytes_cmp after q ≡ Less → bytes_cmp q (key_spelling key) ≡ Less → c areas.Target number q ≡ None)

-- a table without its rows: what it has at the empty key stays, which is the key of no row
abbrev pub cleared : Table → Table
cleared t [] = t []
cleared t (b ∷ key) = None

-- All rows of the target with a number were removed, and no damage is shown that wasn't shown before.
pub record Clears (number : ℕ) (c d : Contents) : Type 0 where
  pub is : d ≡ with_table c areas.Target number (cleared (c areas.Target number))
  pub shown : (n : ℕ) → ShownBefore (target_rules n) c d
