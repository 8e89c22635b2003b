-- What is sound of a server's log.
use Rattle.std.specs.Prelude.{ℕ, ◌≤◌, Bool, true, false, IsTrue, ◌&&◌, ◌||◌, not, ◌==◌, nat_le, List, [], ◌∷◌, length, map}
use Rattle.std.specs.List.{AllByRecursion, flat_map, list_all, list_any}
use Rattle.std.specs.FinMap.{empty}
use Rattle.repl_types.specs.Sizes.{time_limit}
use Rattle.repl_types.specs.declared.record.LogRecord.{LogRecord}
use Rattle.repl_types.specs.declared.unit.Unit.{Unit}
use Rattle.repl_definitions.specs.LogRecords.{IsLogRecord}
use Rattle.repl_model.specs.Tables.{all_apply}
use Rattle.repl_model.specs.Units.{units}
use Rattle.repl_model.specs.SourceAt.{unplaced}
use Rattle.repl_model.specs.Applicable.{is_signal, is_signal_applicable, is_change_applicable}
use Rattle.repl_model.specs.World.{Server, tables_of, registered_of}
use Rattle.repl_types.specs.declared.record.LogRecord.TheVariants as records

-- the most records of a log
abbrev pub log_limit : ℕ
log_limit = 1999999999

-- a record of a transaction
abbrev pub is_of_tx : ℕ → LogRecord → Bool
is_of_tx tx (records.Change t change) = t == tx
is_of_tx tx (records.Commit t time authid origin) = t == tx
is_of_tx tx (records.Abort t) = t == tx

-- a change of the program's own transaction, 0
abbrev pub is_own_change : LogRecord → Bool
is_own_change (records.Change tx change) = tx == 0
is_own_change (records.Commit tx time authid origin) = false
is_own_change (records.Abort tx) = false

-- an abort of the program's own transaction
abbrev pub is_own_abort : LogRecord → Bool
is_own_abort (records.Change tx change) = false
is_own_abort (records.Commit tx time authid origin) = false
is_own_abort (records.Abort tx) = tx == 0

-- the first of some records is one of a transaction
abbrev pub begins_with_tx : ℕ → List LogRecord → Bool
begins_with_tx tx [] = false
begins_with_tx tx (r ∷ log) = is_of_tx tx r

-- The program writes its units whole: after a change of its transaction the next record is one of it too,
-- and none is an abort.
abbrev pub own_units_are_whole : List LogRecord → Bool
own_units_are_whole [] = true
own_units_are_whole (r ∷ log) = not (is_own_abort r) && (not (is_own_change r) || begins_with_tx 0 log) && own_units_are_whole log

-- a record of the log fits the server: a change is one of a defined table, whose rows fit it, or it is a
-- start or stop of a registered table by the program
abbrev pub record_fits : Server → LogRecord → Bool
record_fits server (records.Change tx change) = is_change_applicable (tables_of server) change
    || (tx == 0 && is_signal_applicable (map (λ r. r.reg) (registered_of server)) change)
record_fits server (records.Commit tx time authid origin) = true
record_fits server (records.Abort tx) = true

-- a unit has no starts and stops, or nothing else
abbrev pub signals_stand_alone : Unit → Bool
signals_stand_alone u = list_all is_signal (unplaced u.changes) || not (list_any is_signal (unplaced u.changes))

-- times don't fall from unit to unit, from this time on
abbrev pub times_rise : ℕ → List Unit → Bool
times_rise time [] = true
times_rise time (u ∷ us) = nat_le time u.head.time && times_rise u.head.time us

-- The logs part, of one server: the log is short enough; its names are names, and its numbers and values are
-- in their ranges; its records fit the server, its units apply one after another to each table and their
-- times don't fall; and the program's own units are whole, with starts and stops in units of their own.
pub record LogIsSound (server : Server) : Type 0 where
  pub short : length server.log ≤ log_limit
  pub typed : AllByRecursion IsLogRecord server.log
  pub fits : AllByRecursion (λ r. IsTrue (record_fits server r)) server.log
  pub apply : AllByRecursion (λ def. IsTrue (all_apply def (flat_map (λ u. unplaced u.changes) (units server.log)) empty)) (tables_of server)
  pub times : IsTrue (times_rise 0 (units server.log))
  pub early : AllByRecursion (λ u. u.head.time ≤ time_limit) (units server.log)
  pub own : IsTrue (own_units_are_whole server.log)
  pub signals : AllByRecursion (λ u. IsTrue (signals_stand_alone u)) (units server.log)
