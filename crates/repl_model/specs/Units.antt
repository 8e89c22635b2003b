-- The units of a log.
use Rattle.std.specs.Prelude.{ℕ, ◌+◌, Bool, false, ◌&&◌, ◌==◌, nat_lt, if◌then◌else◌, List, length, filter, fold, Option, Some, None}
use Rattle.std.specs.List.{filter_map, enumerate_from}
use Rattle.repl_types.specs.declared.record.SetId.{SetId}
use Rattle.repl_types.specs.declared.record.LogRecord.{LogRecord}
use Rattle.repl_types.specs.declared.record.LogRecord.TheVariants as records
use Rattle.repl_types.specs.declared.unit.Placed.{Placed}
use Rattle.repl_types.specs.declared.unit.Unit.{Unit}

-- a record of a log with its position, the first at 1
abbrev pub At : Type 0
At = ℕ × LogRecord

-- the records of a log with their positions
abbrev pub positions : List LogRecord → List At
positions log = enumerate_from 1 log

-- the record is a commit or an abort of this transaction
abbrev pub ends : ℕ → LogRecord → Bool
ends tx (records.Change t change) = false
ends tx (records.Commit t time authid origin) = t == tx
ends tx (records.Abort t) = t == tx

-- the position of the last end of a transaction before a position, 0 if there is none
abbrev pub last_end : ℕ → ℕ → List LogRecord → ℕ
last_end tx before log = fold (λ last r. if ends tx r.1 && nat_lt r.0 before then r.0 else last) 0 (positions log)

-- the change of a transaction that a record is, if it is one
abbrev pub change_of : ℕ → At → Option Placed
change_of tx (pos, records.Change t change) = if t == tx then Some (record { pos = pos; change = change }) else None
change_of tx (pos, records.Commit t time authid origin) = None
change_of tx (pos, records.Abort t) = None

-- the changes of a transaction after its last end before a position, and before that position, in order
abbrev pub changes_up_to : ℕ → ℕ → List LogRecord → List Placed
changes_up_to tx before log = filter_map (change_of tx) (filter (λ r. nat_lt (last_end tx before log) r.0 && nat_lt r.0 before) (positions log))

-- the changes that a transaction has in flight after the whole log
abbrev pub open_changes : ℕ → List LogRecord → List Placed
open_changes tx log = changes_up_to tx (length log + 1) log

-- the unit that a commit at a position makes of changes
abbrev pub unit_of : ℕ → ℕ → List ℕ → Option SetId → List Placed → Unit
unit_of pos time authid origin changes = record {
  head = record { seq = pos; time = time; authid = authid; origin = origin; code = 0 };
  changes = changes;
}

-- the unit that a record ends, if it is a commit
abbrev pub unit_at : List LogRecord → At → Option Unit
unit_at log (pos, records.Change tx change) = None
unit_at log (pos, records.Commit tx time authid origin) = Some (unit_of pos time authid origin (changes_up_to tx pos log))
unit_at log (pos, records.Abort tx) = None

-- one unit for each commit, in order of position
unfoldable pub units : List LogRecord → List Unit
units log = filter_map (unit_at log) (positions log)

-- the seq of the last of some units, 0 if there is none
abbrev pub last_seq : List Unit → ℕ
last_seq us = fold (λ last u. u.head.seq) 0 us

-- the time of the last of some units, 0 if there is none
abbrev pub last_time : List Unit → ℕ
last_time us = fold (λ last u. u.head.time) 0 us

-- the position of the last commit, 0 if there is none
abbrev pub last_commit : List LogRecord → ℕ
last_commit log = last_seq (units log)
