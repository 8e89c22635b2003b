-- The change rows that a registration captures.
use Rattle.std.specs.Prelude.{ℕ, Bool, ◌&&◌, if◌then◌else◌, List, [], ◌∷◌, map}
use Rattle.std.specs.List.{flat_map}
use Rattle.std.specs.Str.{bytes_eq}
use Rattle.std.specs.FinMap.{insert, remove}
use Rattle.repl_types.specs.Value.{Values, images}
use Rattle.repl_types.specs.declared.value.Value.TheVariants.{Null}
use Rattle.repl_types.specs.declared.table.TableDef.{TableDef}
use Rattle.repl_types.specs.declared.record.Change.{Change}
use Rattle.repl_types.specs.declared.record.Change.TheVariants.{Insert, Update, Delete, Start, Stop}
use Rattle.repl_types.specs.declared.record.LogRecord.{LogRecord}
use Rattle.repl_types.specs.declared.unit.Placed.{Placed}
use Rattle.repl_types.specs.declared.unit.Unit.{Unit}
use Rattle.repl_types.specs.declared.change_row.Registration.{Registration}
use Rattle.repl_types.specs.declared.change_row.CdRow.{CdRow}
use Rattle.repl_types.specs.declared.change_row.Op.{Op}
use Rattle.repl_types.specs.declared.change_row.Op.TheVariants.{I, U, D}
use Rattle.repl_model.specs.Tables.{Rows, key_of, same_values, table_of}
use Rattle.repl_model.specs.SourceAt.{units_between}

-- the before-images of a row
abbrev pub befores : Registration → Values → Values
befores reg row = images reg.before row

-- before-images that are all NULL
abbrev pub no_befores : Registration → Values
no_befores reg = map (λ place. Null) reg.before

-- with changes_only, an update that changes no registered column isn't captured
abbrev pub shows_nothing : Registration → Values → Values → Bool
shows_nothing reg before after = reg.changes_only && same_values (images reg.after before) (images reg.after after)

-- the change row of an insert, or of the insert that an update is taken apart into
abbrev pub insert_row : Registration → ℕ → ℕ → ℕ → Values → CdRow
insert_row reg seq pos sub row = record { commitseq = seq; intentseq = record { position = pos; sub = sub }; op = I; after = images reg.after row; before = no_befores reg }

-- the change row of a delete
abbrev pub delete_row : Registration → ℕ → ℕ → Values → CdRow
delete_row reg seq pos row = record { commitseq = seq; intentseq = record { position = pos; sub = 0 }; op = D; after = images reg.after row; before = befores reg row }

-- the change row of an update
abbrev pub update_row : Registration → ℕ → ℕ → Values → Values → CdRow
update_row reg seq pos before after = record { commitseq = seq; intentseq = record { position = pos; sub = 0 }; op = U; after = images reg.after after; before = befores reg before }

-- the change rows of a change of the registered table, in a unit with this seq
abbrev pub rows_of : Registration → ℕ → ℕ → Change → List CdRow
rows_of reg seq pos (Insert table row) = insert_row reg seq pos 0 row ∷ []
rows_of reg seq pos (Update table before after) =
    if shows_nothing reg before after then []
    else (if reg.del_ins then delete_row reg seq pos before ∷ insert_row reg seq pos 1 after ∷ []
    else update_row reg seq pos before after ∷ [])
rows_of reg seq pos (Delete table row) = delete_row reg seq pos row ∷ []
rows_of reg seq pos (Start table) = []
rows_of reg seq pos (Stop table) = []

-- the change rows of a change of any table
abbrev pub rows_of_placed : Registration → ℕ → Placed → List CdRow
rows_of_placed reg seq placed = if bytes_eq (table_of placed.change) reg.table then rows_of reg seq placed.pos placed.change else []

-- the change rows of a unit: those of its changes, in order
unfoldable pub change_rows : Registration → Unit → List CdRow
change_rows reg u = flat_map (rows_of_placed reg u.head.seq) u.changes

-- the change rows of the units after one point and up to another
unfoldable pub changes_between : List LogRecord → Registration → ℕ → ℕ → List CdRow
changes_between log reg low high = flat_map (change_rows reg) (units_between low high log)

-- the rows of a table after an operation with a whole row: an insert or an update puts the row under its key,
-- and a delete removes that key
abbrev pub after_op : TableDef → Op → Values → Rows → Rows
after_op def I row rows = insert rows (key_of def row) row
after_op def U row rows = insert rows (key_of def row) row
after_op def D row rows = remove rows (key_of def row)

-- the rows of a table after a change row whose after-images are a whole row
abbrev pub after_change_row : TableDef → CdRow → Rows → Rows
after_change_row def change_row rows = after_op def change_row.op change_row.after rows

-- the rows after change rows, one after another
abbrev pub after_change_rows : TableDef → List CdRow → Rows → Rows
after_change_rows def [] rows = rows
after_change_rows def (change_row ∷ change_rows) rows = after_change_rows def change_rows (after_change_row def change_row rows)
