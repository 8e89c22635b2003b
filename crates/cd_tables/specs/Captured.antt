-- The rows of what a server has captured.
use Rattle.std.specs.Prelude.{ℕ, max, if◌then◌else◌, List, [], map, Option}
use Rattle.std.specs.List.{AllByRecursion}
use Rattle.std.specs.Option.{option_map}
use Rattle.repl_types.specs.declared.unit.Unit.{Unit as LogUnit}
use Rattle.repl_types.specs.declared.unit.UnitHead.{UnitHead}
use Rattle.repl_records.specs.declared.capture.ChangeRow.{ChangeRow}
use Rattle.repl_records.specs.declared.capture.UowRow.{UowRow}
use Rattle.repl_records.specs.declared.record_keys.CdKey.{CdKey}
use Rattle.repl_model.specs.ChangeRows.{changes_between}
use Rattle.repl_model.specs.Sound.{NumbersAreSound}
use Rattle.repl_model.specs.SoundDefinitions.{KeepsTable}
use Rattle.repl_model.specs.SoundLogs.{LogIsSound}
use Rattle.repl_model.specs.SourceAt.{units_between}
use Rattle.repl_model.specs.World.{Registered, Server, code_in}
use Rattle.stored_commits.specs.units.StoredChanges.{stored_change}
use Rattle.cd_tables.specs.StoredRows.{first_of}

-- A server's log, its numbers and its tables are sound, as those of each server of a sound world are.
pub record ServerIsSound (server : Server) : Type 0 where
  pub log : LogIsSound server
  pub numbers : NumbersAreSound server
  pub tables : AllByRecursion KeepsTable server.tables

-- what a commit says of a unit, with the code that its server shows for it
abbrev pub shown_head : Server → LogUnit → UnitHead
shown_head server u = record u.head { code = code_in server.shown u.head.seq }

-- the row of a unit, under its seq
abbrev pub unit_row : Server → LogUnit → ℕ × UowRow
unit_row server u = (u.head.seq, record { time = u.head.time; authid = u.head.authid; origin = u.head.origin; code = code_in server.shown u.head.seq })

-- the rows of the unit-of-work table, which are `uow_rows` of the server: those of the captured units above the floor
abbrev pub captured_units : Server → List (ℕ × UowRow)
captured_units server = map (unit_row server) (units_between server.floor server.captured server.log)

-- the first of the captured units above a seq and the floor
abbrev pub next_captured : ℕ → Server → Option UnitHead
next_captured after server = option_map (shown_head server) (first_of (units_between (max after server.floor) server.captured server.log))

-- the change rows that a server has captured of a registration, if it is active, which are `change_rows_of` the server
abbrev pub captured_changes : Server → Registered → List (CdKey × ChangeRow)
captured_changes server r = if r.active then map stored_change (changes_between server.log r.reg (max r.start r.floor) server.captured) else []
