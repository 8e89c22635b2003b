-- The source as it was at a point of its log.
use Rattle.std.specs.Prelude.{ℕ, ◌&&◌, nat_lt, nat_le, List, [], ◌∷◌, map, filter}
use Rattle.std.specs.FinMap.{empty}
use Rattle.repl_types.specs.declared.record.Change.{Change}
use Rattle.repl_types.specs.declared.record.LogRecord.{LogRecord}
use Rattle.repl_types.specs.declared.table.TableDef.{TableDef}
use Rattle.repl_types.specs.declared.unit.Placed.{Placed}
use Rattle.repl_types.specs.declared.unit.Unit.{Unit}
use Rattle.repl_model.specs.Tables.{Rows, after_changes}
use Rattle.repl_model.specs.Units.{units, last_time}

-- changes without their positions
abbrev pub unplaced : List Placed → List Change
unplaced changes = map (λ placed. placed.change) changes

-- the rows of a table after the changes of some units, in order
abbrev pub after_units : TableDef → List Unit → Rows → Rows
after_units def [] rows = rows
after_units def (u ∷ us) rows = after_units def us (after_changes def (unplaced u.changes) rows)

-- the units of a log up to a point
abbrev pub units_up_to : ℕ → List LogRecord → List Unit
units_up_to point log = filter (λ u. nat_le u.head.seq point) (units log)

-- the units of a log after one point and up to another
abbrev pub units_between : ℕ → ℕ → List LogRecord → List Unit
units_between low high log = filter (λ u. nat_lt low u.head.seq && nat_le u.head.seq high) (units log)

-- the rows of a table after all units up to a point, from no rows
unfoldable pub source_at : TableDef → List LogRecord → ℕ → Rows
source_at def log point = after_units def (units_up_to point log) empty

-- the time of the last unit up to a point, in seconds, 0 if there is none
unfoldable pub time_at : List LogRecord → ℕ → ℕ
time_at log point = last_time (units_up_to point log)

-- a table as it is after a log. No record changes a table's columns, so it is as it was defined.
abbrev pub table_after : List LogRecord → TableDef → TableDef
table_after log def = def
