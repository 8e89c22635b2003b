-- What a capture reads of a log, and what it makes of contents up to the next unit.
use Rattle.std.specs.Prelude.{◌≡◌, ◌⊎◌, ℕ, ◌+◌, ◌<◌, ◌≤◌, min, true, false, Bool, List, [], ◌∷◌, Option, Some, None, slice_get, length}
use Rattle.std.specs.List.{AllByRecursion}
use Rattle.repl_types.specs.declared.area.Area.{Area}
use Rattle.repl_types.specs.declared.area.Area.TheVariants as areas
use Rattle.repl_types.specs.declared.record.LogRecord.{LogRecord}
use Rattle.repl_types.specs.declared.unit.Unit.{Unit}
use Rattle.keep_core.specs.Contents.{Contents, IsNextKey, IsLastKey}
use Rattle.row_codec.specs.LogRecords.{IsLogRecord, log_spelling}
use Rattle.row_codec.specs.Spelling.{Is64, b64}
use Rattle.repl_model.specs.Units.{units}
use Rattle.repl_model.specs.World.{Server, World, restart_after}
use Rattle.repl_model.specs.Sound.{IsSound}
use Rattle.world_store.specs.CaptureRows.{capture_state}
use Rattle.lists.specs.laws.Members.{In}
use Rattle.stored_commits.specs.records.LongerTables.{log_table}
use Rattle.world_commits.specs.captures.Captures.{with_unit, uncaptured, rows_captured}
use Rattle.stored_commits.specs.units.StoredCaptures.{HasCaptured}
use Rattle.world_commits.specs.readings.Reading.{in_flight_from, HasReadTo}
use Rattle.txn_buffer.specs.Buffer.{changes_in, IsLeastFirst}
use Rattle.txn_buffer.specs.declared.buffer.Buffer.{Buffer}
use Rattle.site_store.specs.Damage.{ShownBefore}
use Rattle.cd_tables.specs.Appending.{IsTyped, is_of_unit, CapturesUnit}
use Rattle.capture_core.specs.Rules.{rules}
use Rattle.capture_core.specs.declared.progress.Progress.{Progress}

-- the greatest count
abbrev pub greatest : ℕ
greatest = 18446744073709551615

-- the greatest count of units that wait
abbrev pub greatest_waiting : ℕ
greatest_waiting = 4294967295

-- the units of a log stand within it
abbrev pub UnitsAreWithin : Type 0
UnitsAreWithin = (log : List LogRecord) → AllByRecursion (λ u. (0 < u.head.seq) × (u.head.seq ≤ length log)) (units log)

-- ---- reading

-- this is the first record of the log after a position, if there is one
abbrev pub IsNextRecord : ℕ → Option (ℕ × LogRecord) → Contents → Type 0
IsNextRecord read None c = IsLastKey (c areas.Log 0) (b64 read)
IsNextRecord read (Some r) c = IsNextKey (c areas.Log 0) (b64 read) (b64 r.0) (log_spelling r.1)

-- A record at a position after another.
pub record IsLoggedAfter (read : ℕ) (r : ℕ × LogRecord) : Type 0 where
  pub above : read < r.0
  pub small : Is64 r.0
  pub typed : IsLogRecord r.1

-- the changes that are kept are rows of values
abbrev pub KeepsTyped : Progress → Type 0
KeepsTyped p = (tx : ℕ) → AllByRecursion IsTyped (changes_in p.buffer tx)

-- ---- how far a server is read and captured

-- The log of a server is read and captured as far as the progress says. It was read from the restart of what was
-- captured once, and the buffer has what is in flight of that.
pub record IsReadTo (server : Server) (p : Progress) : Type 0 where
  pub state : p.state ≡ capture_state server
  pub base : ℕ
  pub low : base ≤ server.captured
  pub from : restart_after server.log base ≤ p.read + 1
  pub last : p.read ≤ length server.log
  pub read : HasReadTo p.read server
  pub keeps : (tx : ℕ) → changes_in p.buffer tx ≡ in_flight_from (restart_after server.log base) p.read server.log tx

-- The contents have the log of a server, and what it has captured.
pub record HasServer (server : Server) (c : Contents) : Type 0 where
  pub log : c areas.Log 0 ≡ log_table server
  pub captured : HasCaptured server c

-- the record after those that were read is this one, at this position
abbrev pub ComesNext : Server → ℕ → ℕ → LogRecord → Type 0
ComesNext server read pos logged = (pos ≡ read + 1) × (slice_get server.log read ≡ Some logged)

-- ---- what a unit makes of them

-- a capture after this position begins at the first change in flight, or if there is none, after the position
abbrev pub IsRestart : Buffer → ℕ → ℕ → Type 0
IsRestart buffer captured restart = (((tx : ℕ) → changes_in buffer tx ≡ []) × (restart ≡ min (captured + 1) greatest)) ⊎ IsLeastFirst buffer restart

-- Only tables that the capture of a unit changes differ, and no damage is shown that wasn't shown before.
pub record LeavesOthers (c d : Contents) : Type 0 where
  pub others : (a : Area) (n : ℕ) → is_of_unit a n ≡ false → d a n ≡ c a n
  pub shown : ShownBefore rules c d

-- The unit of a commit is captured, and the progress says so.
pub record TakesCommit (p q : Progress) (u : Unit) (c d : Contents) : Type 0 where
  pub restart : ℕ
  pub begins : IsRestart p.buffer u.head.seq restart
  pub rows : ℕ
  pub captures : CapturesUnit u rows c d
  pub leaves : LeavesOthers c d
  pub progress : q ≡ record p {
    state = record { captured = u.head.seq; restart = restart; floor = p.state.floor };
    units = min (p.units + 1) greatest;
    rows = min (p.rows + rows) greatest;
    waiting = min (p.waiting + 1) greatest_waiting;
  }

-- one more unit is counted, or none
abbrev pub Counts : Bool → Progress → Progress → Type 0
Counts true p q = (q.units ≡ min (p.units + 1) greatest) × (q.waiting ≡ min (p.waiting + 1) greatest_waiting)
Counts false p q = (q.units ≡ p.units) × (q.waiting ≡ p.waiting)

-- The next unit of a server is captured.
pub record HasTaken (server : Server) (p q : Progress) (d : Contents) : Type 0 where
  pub unit : Unit
  pub rest : List Unit
  pub next : uncaptured server ≡ unit ∷ rest
  pub captured : HasCaptured (with_unit unit server) d
  pub read : IsReadTo (with_unit unit server) q
  pub rows : q.rows ≡ min (p.rows + rows_captured unit.head.seq unit.changes server) greatest

-- what follows for each server of a sound world whose log and captured units the contents have, and which is read and
-- captured as far as the progress says
abbrev pub ForEach : Progress → Contents → (Server → Type 0) → Type 0
ForEach p c P = (world : World) (server : Server) → IsSound world → In server world → HasServer server c → IsReadTo server p → P server

-- A record was taken that ends no unit which isn't captured.
pub record TakesNone (p q : Progress) (pos : ℕ) (logged : LogRecord) (c d : Contents) : Type 0 where
  pub same : d ≡ c
  pub rows : q.rows ≡ p.rows
  pub takes : ForEach p c (λ server. ComesNext server p.read pos logged → IsReadTo server q)

-- A record was taken that ends one, and the unit was captured.
pub record TakesOne (p q : Progress) (pos : ℕ) (logged : LogRecord) (c d : Contents) : Type 0 where
  pub leaves : LeavesOthers c d
  pub takes : ForEach p c (λ server. ComesNext server p.read pos logged → HasTaken server p q d)

-- the record at a position was taken, and a unit was captured, or none
abbrev pub TakesRecord : Progress → Progress → ℕ → LogRecord → Bool → Contents → Contents → Type 0
TakesRecord p q pos logged true c d = TakesOne p q pos logged c d
TakesRecord p q pos logged false c d = TakesNone p q pos logged c d

-- The log was read on, up to no unit so far.
pub record ReadsOn (p q : Progress) (c d : Contents) : Type 0 where
  pub same : d ≡ c
  pub rows : q.rows ≡ p.rows
  pub reads : ForEach p c (λ server. IsReadTo server q)

-- The log was read to its end, and there is no further unit.
pub record ReadsAll (p q : Progress) (c d : Contents) : Type 0 where
  pub same : d ≡ c
  pub rows : q.rows ≡ p.rows
  pub reads : ForEach p c (λ server. IsReadTo server q × (uncaptured server ≡ []))

-- The log was read up to the next unit, which was captured.
pub record ReadsUnit (p q : Progress) (c d : Contents) : Type 0 where
  pub leaves : LeavesOthers c d
  pub takes : ForEach p c (λ server. HasTaken server p q d)

-- the log was read up to the next unit, or to its end
abbrev pub TakesUnit : Progress → Progress → Bool → Contents → Contents → Type 0
TakesUnit p q true c d = ReadsUnit p q c d
TakesUnit p q false c d = ReadsAll p q c d
