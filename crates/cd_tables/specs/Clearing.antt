-- What removing the change rows of a registration, one after another, makes of contents.
use Rattle.std.specs.Prelude.{◌≡◌, ℕ, List, Option, Some, None}
use Rattle.std.specs.declared.cmp.Ordering.TheVariants.{Less}
use Rattle.repl_types.specs.Bytes.{bytes_cmp}
use Rattle.repl_types.specs.declared.area.Area.TheVariants as areas
use Rattle.keep_core.specs.Contents.{Contents, IsLastKey, put_at}
use Rattle.repl_records.specs.RecordKeys.{change_key_spelling, IsChangeKey}
use Rattle.repl_records.specs.declared.record_keys.CdKey.{CdKey}

-- The first row after a key was removed, which was this one; or there is none.
abbrev pub ClearsNext : ℕ → List ℕ → Option CdKey → Contents → Contents → Type 0
ClearsNext number after None c d = (d ≡ c) × IsLastKey (c areas.Cd number) after
ClearsNext number after (Some key) c d = (d ≡ put_at c areas.Cd number (change_key_spelling key) None)
    × ((q : List ℕ) → bytes_cmp after q ≡ Less → bytes_cmp q (change_key_spelling key) ≡ Less → c areas.Cd number q ≡ None)

-- A key of a change row, after another key.
pub record IsCleared (after : List ℕ) (key : CdKey) : Type 0 where
  pub above : bytes_cmp after (change_key_spelling key) ≡ Less
  pub fits : IsChangeKey key
