-- The stored tables of a source, and what changes make of them.
use Rattle.std.specs.Prelude.{◌≡◌, ℕ, true, IsTrue, ◌||◌, if◌then◌else◌, List, [], ◌∷◌, map, Some, None, ⊤}
use Rattle.std.specs.List.{AllByRecursion}
use Rattle.std.specs.Str.{bytes_eq}
use Rattle.std.specs.FinMap.{entries}
use Rattle.repl_types.specs.Value.{Values}
use Rattle.repl_types.specs.declared.record.Change.{Change}
use Rattle.repl_types.specs.declared.record.Change.TheVariants.{Insert, Update, Delete, Start, Stop}
use Rattle.repl_types.specs.declared.table.TableDef.{TableDef}
use Rattle.row_codec.specs.Spelling.{IsKey, IsRow, key_spelling, row_spelling}
use Rattle.row_codec.specs.LogRecords.{IsChange}
use Rattle.repl_records.specs.declared.source_side.SourceRow.{SourceRow}
use Rattle.repl_records.specs.SourceSide.{source_row_spelling}
use Rattle.keep_core.specs.Contents.{Table, set_key}
use Rattle.rows_in_order.specs.Rows.{table_from_rows}
use Rattle.repl_model.specs.Tables.{Rows, key_of, table_of, after_change, after_changes}
use Rattle.repl_model.specs.Applicable.{fits, change_fits, is_signal}

-- ---- rows

-- a row of a table of the source as it is stored
abbrev pub stored_row : Values × Values → Values × SourceRow
stored_row entry = (entry.0, record { row = entry.1 })

-- the stored table of rows of the source
abbrev pub rows_table : Rows → Table
rows_table rows = table_from_rows key_spelling source_row_spelling (map stored_row (entries rows))

-- A row stands under its own key, and it is a row of values.
pub record StandsUnderKey (def : TableDef) (entry : Values × Values) : Type 0 where
  pub own : entry.0 ≡ key_of def entry.1
  pub row : IsRow entry.1

-- each row of a table stands under its own key
abbrev pub RowsStand : TableDef → Rows → Type 0
RowsStand def rows = AllByRecursion (StandsUnderKey def) (entries rows)

-- each row of a table fits it
abbrev pub RowsFit : TableDef → Rows → Type 0
RowsFit def rows = AllByRecursion (λ entry. IsTrue (fits def entry.1)) (entries rows)

-- the key of a row of values can be spelled
abbrev pub KeysOfRowsFit : Type 0
KeysOfRowsFit = (def : TableDef) (row : Values) → IsRow row → IsKey (key_of def row)

-- ---- one change

-- the rows of a change are rows of values
abbrev pub HasRows : Change → Type 0
HasRows (Insert table row) = IsRow row
HasRows (Update table before after) = IsRow before × IsRow after
HasRows (Delete table row) = IsRow row
HasRows (Start table) = ⊤
HasRows (Stop table) = ⊤

-- those of a change in a log record are
abbrev pub TypedChangesHaveRows : Type 0
TypedChangesHaveRows = (tx : ℕ) (change : Change) → IsChange tx change → HasRows change

-- The stored table after a change of its own rows: an insert puts its row at its key, a delete removes what
-- stands at the key of its row, and an update does both. A start or a stop changes nothing.
abbrev pub with_effect : TableDef → Change → Table → Table
with_effect def (Insert table row) t = set_key t (key_spelling (key_of def row)) (Some (row_spelling row))
with_effect def (Update table before after) t = set_key (set_key t (key_spelling (key_of def before)) None) (key_spelling (key_of def after)) (Some (row_spelling after))
with_effect def (Delete table row) t = set_key t (key_spelling (key_of def row)) None
with_effect def (Start table) t = t
with_effect def (Stop table) t = t

-- the stored table after a change of any table: one of another table changes nothing
abbrev pub with_change : TableDef → Change → Table → Table
with_change def change t = if bytes_eq (table_of change) def.name then with_effect def change t else t

-- the stored table of the rows after a change is what its puts and removals make of the stored table before
abbrev pub ChangeIsStored : Type 0
ChangeIsStored = (def : TableDef) (change : Change) (rows : Rows) → RowsStand def rows → HasRows change
    → rows_table (after_change def change rows) ≡ with_change def change (rows_table rows)

-- rows stand under their keys after a change too
abbrev pub RowsStayStanding : Type 0
RowsStayStanding = (def : TableDef) (change : Change) (rows : Rows) → RowsStand def rows → HasRows change → RowsStand def (after_change def change rows)

-- a change that is of the table fits it, or is a start or a stop
abbrev pub Suits : TableDef → Change → Type 0
Suits def change = bytes_eq (table_of change) def.name ≡ true → (is_signal change || change_fits def change) ≡ true

-- rows fit their table after a change that suits it too
abbrev pub RowsStayFitting : Type 0
RowsStayFitting = (def : TableDef) (change : Change) (rows : Rows) → RowsFit def rows → Suits def change → RowsFit def (after_change def change rows)

-- ---- changes in turn

-- the stored table after changes, one after another
abbrev pub with_changes : TableDef → List Change → Table → Table
with_changes def [] t = t
with_changes def (change ∷ changes) t = with_changes def changes (with_change def change t)

-- the stored table of the rows after changes
abbrev pub ChangesAreStored : Type 0
ChangesAreStored = (def : TableDef) (changes : List Change) (rows : Rows) → RowsStand def rows → AllByRecursion HasRows changes
    → rows_table (after_changes def changes rows) ≡ with_changes def changes (rows_table rows)
