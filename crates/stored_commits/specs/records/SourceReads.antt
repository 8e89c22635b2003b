-- What a read of a stored table of the source tells of its rows, and whether a change applies.
use Rattle.std.specs.Prelude.{◌≡◌, ℕ, List, true, false, ◌&&◌, Option, IfSome, is_none}
use Rattle.std.specs.Option.{option_map}
use Rattle.repl_types.specs.Value.{Values}
use Rattle.repl_types.specs.declared.record.Change.TheVariants.{Insert, Update, Delete}
use Rattle.repl_types.specs.declared.table.TableDef.{TableDef}
use Rattle.row_codec.specs.Spelling.{IsKey, IsRow, key_spelling, row_spelling}
use Rattle.repl_records.specs.declared.source_side.SourceRow.{SourceRow}
use Rattle.repl_records.specs.SourceSide.{source_row_spelling, IsSourceRow}
use Rattle.std.specs.FinMap.{get}
use Rattle.repl_model.specs.Tables.{Rows, key_of, same_values, is_row, applies_here}
use Rattle.stored_commits.specs.records.SourceTables.{rows_table, RowsStand}

-- at the spelling of a key stands the row of the key
abbrev pub RowStandsAtKey : Type 0
RowStandsAtKey = (def : TableDef) (rows : Rows) (key : Values) → RowsStand def rows → IsKey key
    → rows_table rows (key_spelling key) ≡ option_map row_spelling (get rows key)

-- A read at a key gave this row, or none.
pub record Found (rows : Rows) (key : Values) (found : Option SourceRow) : Type 0 where
  pub stands : rows_table rows (key_spelling key) ≡ option_map source_row_spelling found
  pub fits : IfSome found IsSourceRow

-- the values of a row that was read
abbrev pub values_read : Option SourceRow → Option Values
values_read found = option_map (λ r. r.row) found

-- what is found is the row of the key
abbrev pub ReadFindsRow : Type 0
ReadFindsRow = (def : TableDef) (rows : Rows) (key : Values) (found : Option SourceRow) → RowsStand def rows → IsKey key → Found rows key found
    → get rows key ≡ values_read found

-- ---- whether a change applies

-- an insert applies if nothing is found at the key of its row
abbrev pub InsertIsDecided : Type 0
InsertIsDecided = (def : TableDef) (rows : Rows) (table : List ℕ) (row : Values) (found : Option SourceRow) → RowsStand def rows → IsRow row → Found rows (key_of def row) found
    → applies_here def (Insert table row) rows ≡ is_none found

-- a delete applies if its row is found at the key of its row
abbrev pub DeleteIsDecided : Type 0
DeleteIsDecided = (def : TableDef) (rows : Rows) (table : List ℕ) (row : Values) (found : Option SourceRow) → RowsStand def rows → IsRow row → Found rows (key_of def row) found
    → applies_here def (Delete table row) rows ≡ is_row row (values_read found)

-- an update that keeps the key applies if its before-image is found at the key
abbrev pub UpdateIsDecided : Type 0
UpdateIsDecided = (def : TableDef) (rows : Rows) (table : List ℕ) (before after : Values) (found : Option SourceRow) → RowsStand def rows → IsRow before → Found rows (key_of def before) found
    → same_values (key_of def before) (key_of def after) ≡ true
    → applies_here def (Update table before after) rows ≡ is_row before (values_read found)

-- one that moves the key applies if its before-image is found at the old key, and nothing at the new one
abbrev pub MoveIsDecided : Type 0
MoveIsDecided = (def : TableDef) (rows : Rows) (table : List ℕ) (before after : Values) (old new : Option SourceRow) → RowsStand def rows → IsRow before → IsRow after
    → Found rows (key_of def before) old → Found rows (key_of def after) new
    → same_values (key_of def before) (key_of def after) ≡ false
    → applies_here def (Update table before after) rows ≡ (is_row before (values_read old) && is_none new)
