-- Which log records are applicable after a log.
use Rattle.std.specs.Prelude.{ℕ, Bool, true, false, ◌&&◌, nat_le, List, [], ◌∷◌, find, sum_by, Option}
use Rattle.std.specs.List.{list_all, list_any}
use Rattle.std.specs.Option.{option_map_or}
use Rattle.std.specs.Str.{bytes_eq}
use Rattle.repl_types.specs.Sizes.{key_limit}
use Rattle.repl_types.specs.Value.{Values, images, spelled_len}
use Rattle.repl_types.specs.declared.value.Value.{Value}
use Rattle.repl_types.specs.declared.value.Value.TheVariants.{Null, Int, Text}
use Rattle.repl_types.specs.declared.table.Kind.{Kind}
use Rattle.repl_types.specs.declared.table.Kind.TheVariants as kinds
use Rattle.repl_types.specs.declared.table.ColumnDef.{ColumnDef}
use Rattle.repl_types.specs.declared.table.TableDef.{TableDef}
use Rattle.repl_types.specs.declared.record.Change.{Change}
use Rattle.repl_types.specs.declared.record.Change.TheVariants.{Insert, Update, Delete, Start, Stop}
use Rattle.repl_types.specs.declared.change_row.Registration.{Registration}
use Rattle.repl_types.specs.declared.record.LogRecord.{LogRecord}
use Rattle.repl_types.specs.declared.record.LogRecord.TheVariants as records
use Rattle.repl_model.specs.Tables.{key_of, same_values, table_of, all_apply}
use Rattle.repl_model.specs.Units.{units, last_commit, last_time, open_changes}
use Rattle.repl_model.specs.SourceAt.{unplaced, source_at}

-- a value may stand in a column
abbrev pub fits_column : ColumnDef → Value → Bool
fits_column column Null = column.nullable
fits_column column (Int n) = is_int column.kind
  where
    is_int : Kind → Bool
    is_int kinds.Int = true
    is_int kinds.Text = false
fits_column column (Text t) = is_text column.kind
  where
    is_text : Kind → Bool
    is_text kinds.Int = false
    is_text kinds.Text = true

-- there are as many values as columns, and each may stand in its column
abbrev pub fits_columns : List ColumnDef → Values → Bool
fits_columns [] [] = true
fits_columns [] (v ∷ row) = false
fits_columns (column ∷ columns) [] = false
fits_columns (column ∷ columns) (v ∷ row) = fits_column column v && fits_columns columns row

-- a row fits its table: its values fit the columns, and its key has at most 1,024 bytes
abbrev pub fits : TableDef → Values → Bool
fits def row = fits_columns def.columns row && nat_le (sum_by spelled_len (key_of def row)) key_limit

-- a change fits its table: its rows do, and an update leaves the fixed columns
unfoldable pub change_fits : TableDef → Change → Bool
change_fits def (Insert table row) = fits def row
change_fits def (Update table before after) = fits def before && fits def after && same_values (images def.fixed before) (images def.fixed after)
change_fits def (Delete table row) = fits def row
change_fits def (Start table) = false
change_fits def (Stop table) = false

-- the table of a name, if it is one of these
abbrev pub table_named : List ℕ → List TableDef → Option TableDef
table_named name tables = find (λ def. bytes_eq name def.name) tables

-- a change record is applicable at a server if its table is defined there and the change fits it
abbrev pub is_change_applicable : List TableDef → Change → Bool
is_change_applicable tables change = option_map_or (λ def. change_fits def change) (table_named (table_of change) tables) false

-- At a server with this log, and with these tables after it, a change record is applicable if its change is.
-- A commit record is if its time isn't below that of the last commit, and its unit's changes apply one after
-- another to the committed rows of each table. An abort always is.
unfoldable pub is_applicable : List TableDef → List LogRecord → LogRecord → Bool
is_applicable tables log (records.Change tx change) = is_change_applicable tables change
is_applicable tables log (records.Commit tx time authid origin) = nat_le (last_time (units log)) time
    && list_all (λ def. all_apply def (unplaced (open_changes tx log)) (source_at def log (last_commit log))) tables
is_applicable tables log (records.Abort tx) = true

-- the change starts or stops a registration
abbrev pub is_signal : Change → Bool
is_signal (Insert table row) = false
is_signal (Update table before after) = false
is_signal (Delete table row) = false
is_signal (Start table) = true
is_signal (Stop table) = true

-- A start or a stop is applicable at a server if its table is registered there. Only the program writes
-- these, and their units apply to all rows.
abbrev pub is_signal_applicable : List Registration → Change → Bool
is_signal_applicable regs change = is_signal change && list_any (λ reg. bytes_eq (table_of change) reg.table) regs
