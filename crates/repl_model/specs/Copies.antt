-- What a copy is, and which registrations and logs let change rows keep it.
use Rattle.std.specs.Prelude.{◌≡◌, ℕ, Bool, false, IsTrue, ◌==◌, List, length}
use Rattle.std.specs.List.{AllByRecursion, list_all, list_any, range_with_len}
use Rattle.std.specs.Str.{bytes_eq}
use Rattle.repl_types.specs.declared.record.Change.{Change}
use Rattle.repl_types.specs.declared.record.Change.TheVariants.{Insert, Update, Delete, Start, Stop}
use Rattle.repl_types.specs.declared.record.LogRecord.{LogRecord}
use Rattle.repl_types.specs.declared.record.LogRecord.TheVariants as records
use Rattle.repl_types.specs.declared.table.TableDef.{TableDef}
use Rattle.repl_types.specs.declared.change_row.Registration.{Registration}
use Rattle.repl_types.specs.Value.{Values}
use Rattle.repl_model.specs.Tables.{Rows, key_of, table_of}
use Rattle.repl_model.specs.SourceAt.{source_at}

-- the copy of all rows and columns of a table, at a point of the source's log
abbrev pub copy_at : TableDef → List LogRecord → ℕ → Rows
copy_at def log point = source_at def log point

-- a registration of the table that keeps whole rows as they come: all its columns in order, no update taken
-- apart, and none left out
pub record KeepsWholeRows (def : TableDef) (reg : Registration) : Type 0 where
  pub table : reg.table ≡ def.name
  pub after : reg.after ≡ range_with_len 0 (length def.columns)
  pub del_ins : reg.del_ins ≡ false
  pub changes_only : reg.changes_only ≡ false

-- the row has a value for each column
abbrev pub IsWhole : TableDef → Values → Type 0
IsWhole def row = length row ≡ length def.columns

-- the rows of a change are whole, and an update leaves the key
abbrev pub LeavesKey : TableDef → Change → Type 0
LeavesKey def (Insert table row) = IsWhole def row
LeavesKey def (Update table before after) = IsWhole def before × IsWhole def after × (key_of def before ≡ key_of def after)
LeavesKey def (Delete table row) = IsWhole def row
LeavesKey def (Start table) = Unit {0}
LeavesKey def (Stop table) = Unit {0}

-- a record that is a change of the table leaves the key
abbrev pub RecordLeavesKey : TableDef → LogRecord → Type 0
RecordLeavesKey def (records.Change tx change) = IsTrue (bytes_eq (table_of change) def.name) → LeavesKey def change
RecordLeavesKey def (records.Commit tx time authid origin) = Unit {0}
RecordLeavesKey def (records.Abort tx) = Unit {0}

-- each record of a log that is a change of the table leaves the key
abbrev pub LeavesKeys : TableDef → List LogRecord → Type 0
LeavesKeys def log = AllByRecursion (RecordLeavesKey def) log

-- each column of the key is among the fixed columns
abbrev pub is_key_fixed : TableDef → Bool
is_key_fixed def = list_all (λ place. list_any (λ fixed. fixed == place) def.fixed) def.key
