-- What dropping change rows, and showing a code of a unit, make of contents.
use Rattle.std.specs.Prelude.{◌≡◌, ◌⊎◌, ℕ, ◌<◌, ◌≤◌, ◌==◌, ◌&&◌, false, min, if◌then◌else◌, List, length, map, Option, Some, None}
use Rattle.std.specs.declared.cmp.Ordering.TheVariants.{Less}
use Rattle.repl_types.specs.Area.{same_area}
use Rattle.repl_types.specs.Bytes.{bytes_cmp}
use Rattle.repl_types.specs.declared.area.Area.{Area}
use Rattle.repl_types.specs.declared.area.Area.TheVariants as areas
use Rattle.keep_core.specs.Contents.{Contents, IsNextKey, IsLastKey, put_at}
use Rattle.row_codec.specs.Spelling.{b64}
use Rattle.repl_records.specs.Capture.{IsChangeRow, change_row_spelling, uow_spelling, IsUow}
use Rattle.repl_records.specs.RecordKeys.{change_key_spelling, IsChangeKey}
use Rattle.repl_records.specs.declared.capture.ChangeRow.{ChangeRow}
use Rattle.repl_records.specs.declared.capture.UowRow.{UowRow}
use Rattle.repl_records.specs.declared.record_keys.CdKey.{CdKey}
use Rattle.site_store.specs.Damage.{ShownBefore}
use Rattle.cd_tables.specs.StoredRows.{AreChangeRows, HasChangeRows, rows_upto, rows_above, AreUnitRows, HasUnitRows, row_rules}

-- ---- change rows

-- the greatest count
abbrev pub greatest : ℕ
greatest = 18446744073709551615

-- The next change row of a registration after a key is this one.
pub record HasNextChange (number : ℕ) (after : List ℕ) (key : CdKey) (row : ChangeRow) (c : Contents) : Type 0 where
  pub key_fits : IsChangeKey key
  pub fits : IsChangeRow row
  pub next : IsNextKey (c areas.Cd number) after (change_key_spelling key) (change_row_spelling row)

-- the first row after a key was removed, which was under this key; or there is none of a unit up to a floor
abbrev pub DropsNext : ℕ → ℕ → List ℕ → Option CdKey → Contents → Contents → Type 0
DropsNext number floor after None c d = (d ≡ c) × (IsLastKey (c areas.Cd number) after ⊎ ((key : CdKey) × (row : ChangeRow) × HasNextChange number after key row c × (floor < key.commitseq)))
DropsNext number floor after (Some key) c d = (d ≡ put_at c areas.Cd number (change_key_spelling key) None) × ((row : ChangeRow) × HasNextChange number after key row c)

-- A key of a change row after another key, of a unit up to a floor.
pub record IsDropped (floor : ℕ) (after : List ℕ) (key : CdKey) : Type 0 where
  pub above : bytes_cmp after (change_key_spelling key) ≡ Less
  pub fits : IsChangeKey key
  pub low : key.commitseq ≤ floor

-- The change rows of a registration of units up to a floor were removed, and counted. No other table changed, no row was
-- added, and no damage is shown that wasn't shown before.
pub record DropsUpto (number floor count : ℕ) (c d : Contents) : Type 0 where
  pub others : (a : Area) (n : ℕ) → (same_area areas.Cd a && (number == n)) ≡ false → d a n ≡ c a n
  pub left : (key value : List ℕ) → d areas.Cd number key ≡ Some value → c areas.Cd number key ≡ Some value
  pub rows : (rows : List (CdKey × ChangeRow)) → AreChangeRows rows → HasChangeRows number rows c → HasChangeRows number (rows_above floor rows) d × (count ≡ min (length (rows_upto floor rows)) greatest)
  pub shown : ShownBefore row_rules c d

-- ---- codes

-- the row of a unit with another code
abbrev pub with_code : ℕ → UowRow → UowRow
with_code code row = record row { code = code }

-- the units with another code of the one with a seq
abbrev pub codes_set : ℕ → ℕ → List (ℕ × UowRow) → List (ℕ × UowRow)
codes_set seq code rows = map (λ r. if r.0 == seq then (r.0, with_code code r.1) else r) rows

-- The row of the unit with a seq shows another code, and nothing else changed.
pub record SetsCode (seq code : ℕ) (c d : Contents) : Type 0 where
  pub row : UowRow
  pub fits : IsUow row
  pub had : c areas.Uow 0 (b64 seq) ≡ Some (uow_spelling row)
  pub sets : d ≡ put_at c areas.Uow 0 (b64 seq) (Some (uow_spelling (with_code code row)))
  pub rows : (rows : List (ℕ × UowRow)) → AreUnitRows rows → HasUnitRows rows c → HasUnitRows (codes_set seq code rows) d
  pub shown : ShownBefore row_rules c d
