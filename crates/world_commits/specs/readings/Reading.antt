-- What a capture knows of a log that it has read in part.
use Rattle.std.specs.Prelude.{◌≡◌, ℕ, ◌+◌, ◌<◌, ◌≤◌, ◌==◌, max, nat_lt, nat_le, if◌then◌else◌, List, [], ◌∷◌, ◌++◌, length, filter, take, Option, Some, slice_get}
use Rattle.repl_types.specs.declared.record.Change.{Change}
use Rattle.repl_types.specs.declared.record.SetId.{SetId}
use Rattle.repl_types.specs.declared.record.LogRecord.{LogRecord}
use Rattle.repl_types.specs.declared.record.LogRecord.TheVariants as records
use Rattle.repl_types.specs.declared.unit.Placed.{Placed}
use Rattle.repl_types.specs.declared.unit.Unit.{Unit}
use Rattle.repl_model.specs.Units.{units, unit_of, open_changes}
use Rattle.repl_model.specs.World.{Server, restart_after}
use Rattle.world_commits.specs.captures.Captures.{with_unit, uncaptured}

-- ---- changes in flight

-- the changes from a position on that a transaction has in flight after the first records of a log
abbrev pub in_flight_from : ℕ → ℕ → List LogRecord → ℕ → List Placed
in_flight_from start read log tx = filter (λ placed. nat_le start placed.pos) (open_changes tx (take read log))

-- nothing is in flight if the position begins after the records
abbrev pub StartsEmpty : Type 0
StartsEmpty = (start read : ℕ) (log : List LogRecord) (tx : ℕ) → read < start → in_flight_from start read log tx ≡ []

-- a change that is read next joins those of its transaction
abbrev pub ChangeJoins : Type 0
ChangeJoins = (start read : ℕ) (log : List LogRecord) (t : ℕ) (change : Change) (tx : ℕ) → start ≤ read + 1 → slice_get log read ≡ Some (records.Change t change)
    → in_flight_from start (read + 1) log tx ≡ (if t == tx then in_flight_from start read log tx ++ record { pos = read + 1; change = change } ∷ [] else in_flight_from start read log tx)

-- a commit that is read next leaves nothing of its transaction, and so does an abort
abbrev pub EndLeavesNone : Type 0
EndLeavesNone = (start read : ℕ) (log : List LogRecord) (t : ℕ) (tx : ℕ) (r : LogRecord) → slice_get log read ≡ Some r
    → ((time : ℕ) (authid : List ℕ) (origin : Option SetId) → r ≡ records.Commit t time authid origin
    → in_flight_from start (read + 1) log tx ≡ (if t == tx then [] else in_flight_from start read log tx))
    × (r ≡ records.Abort t → in_flight_from start (read + 1) log tx ≡ (if t == tx then [] else in_flight_from start read log tx))

-- from the restart on, nothing is missed of what is in flight at a point or later
abbrev pub RestartIsEarly : Type 0
RestartIsEarly = (log : List LogRecord) (point read tx : ℕ) → point ≤ read → read ≤ length log
    → in_flight_from (restart_after log point) read log tx ≡ open_changes tx (take read log)

-- ---- units

-- the units of a server's log after a position
abbrev pub units_after : ℕ → Server → List Unit
units_after read server = filter (λ u. nat_lt read u.head.seq) (units server.log)

-- Of the records that were read, no commit makes a unit that isn't captured.
abbrev pub HasReadTo : ℕ → Server → Type 0
HasReadTo read server = uncaptured server ≡ units_after (max server.captured read) server

-- it is so as long as no commit is read after what is captured
abbrev pub OthersAreRead : Type 0
OthersAreRead = (server : Server) (read : ℕ) (r : LogRecord) → slice_get server.log read ≡ Some r → HasReadTo read server
    → ((t time : ℕ) (authid : List ℕ) (origin : Option SetId) → r ≡ records.Commit t time authid origin → read + 1 ≤ server.captured)
    → HasReadTo (read + 1) server

-- a commit that is read after what is captured makes the next unit, of what its transaction has in flight, and once
-- it is captured, this is so again
abbrev pub CommitIsNext : Type 0
CommitIsNext = (server : Server) (read t time : ℕ) (authid : List ℕ) (origin : Option SetId) → slice_get server.log read ≡ Some (records.Commit t time authid origin) → server.captured ≤ read → HasReadTo read server
    → ((rest : List Unit) × (uncaptured server ≡ unit_of (read + 1) time authid origin (open_changes t (take read server.log)) ∷ rest))
    × HasReadTo (read + 1) (with_unit (unit_of (read + 1) time authid origin (open_changes t (take read server.log))) server)

-- at the end of the log all units are captured
abbrev pub NoneAtTheEnd : Type 0
NoneAtTheEnd = (server : Server) → HasReadTo (length server.log) server → uncaptured server ≡ []

-- ---- the restart

-- if nothing is in flight at a point, a capture after it begins there
abbrev pub RestartsAfter : Type 0
RestartsAfter = (log : List LogRecord) (point : ℕ) → point ≤ length log → ((tx : ℕ) → open_changes tx (take point log) ≡ []) → restart_after log point ≡ point + 1

-- else at the first change in flight
abbrev pub RestartsAtFirst : Type 0
RestartsAtFirst = (log : List LogRecord) (point tx : ℕ) (first : Placed) (rest : List Placed) → point ≤ length log → open_changes tx (take point log) ≡ first ∷ rest
    → ((t : ℕ) (placed : Placed) (more : List Placed) → open_changes t (take point log) ≡ placed ∷ more → first.pos ≤ placed.pos) → restart_after log point ≡ first.pos
