-- Which changes may stand in a log, and which can be made at a table.
use Rattle.std.specs.Prelude.{◌≡◌, ◌<◌, ◌≤◌, Bool, true, ◌&&◌, not, ◌==◌, nat_le, [], ◌∷◌, length}
use Rattle.repl_types.specs.Sizes.{row_limit}
use Rattle.repl_types.specs.Value.{Values}
use Rattle.repl_types.specs.declared.record.Change.{Change}
use Rattle.repl_types.specs.declared.record.Change.TheVariants.{Insert, Update, Delete, Start, Stop}
use Rattle.repl_types.specs.declared.table.TableDef.{TableDef}
use Rattle.row_codec.specs.Spelling.{IsRow}
use Rattle.repl_model.specs.Applicable.{fits, is_change_applicable}
use Rattle.stored_commits.specs.records.SourceTables.{HasRows}

-- each row of a change has at most 64 values
abbrev pub has_short_rows : Change → Bool
has_short_rows (Insert table row) = nat_le (length row) row_limit
has_short_rows (Update table before after) = nat_le (length before) row_limit && nat_le (length after) row_limit
has_short_rows (Delete table row) = nat_le (length row) row_limit
has_short_rows (Start table) = true
has_short_rows (Stop table) = true

-- a change may stand in a log: it is of this table, which has a key, and fits it, and its rows aren't too long
abbrev pub may_stand : TableDef → Change → Bool
may_stand def change = not (length def.key == 0) && has_short_rows change && is_change_applicable (def ∷ []) change

-- A change whose rows are rows of values, and that may stand in a log.
pub record CanBeMade (def : TableDef) (change : Change) : Type 0 where
  pub rows : HasRows change
  pub stands : may_stand def change ≡ true

-- A row of values that may stand in a table.
pub record RowMayStand (def : TableDef) (row : Values) : Type 0 where
  pub values : IsRow row
  pub short : length row ≤ row_limit
  pub keyed : 0 < length def.key
  pub fit : fits def row ≡ true
