-- Which records can follow at a server, and which units can come to it.
use Rattle.std.specs.Prelude.{◌<◌, ◌≤◌, Bool, IsTrue, ◌&&◌, not, ◌==◌, List, [], ◌∷◌, length, is_none, ⊤}
use Rattle.std.specs.List.{AllByRecursion, list_all}
use Rattle.repl_types.specs.Sizes.{time_limit}
use Rattle.repl_types.specs.declared.record.LogRecord.{LogRecord}
use Rattle.repl_types.specs.declared.record.LogRecord.TheVariants as records
use Rattle.repl_types.specs.declared.unit.Unit.{Unit}
use Rattle.row_codec.specs.LogRecords.{IsLogRecord}
use Rattle.repl_model.specs.Applicable.{is_applicable}
use Rattle.repl_model.specs.World.{Server, World, tables_of, known_sets}
use Rattle.repl_model.specs.Replicas.{comes_from}
use Rattle.repl_model.specs.SoundLogs.{log_limit}
use Rattle.repl_model.specs.SoundDefinitions.{has_origin, replica_sets}
use Rattle.repl_model.specs.Longer.{with_more}

-- ---- records

-- The record is a user's: its transaction isn't 0, which is the program's own, and a commit has no origin.
abbrev pub is_users : LogRecord → Bool
is_users (records.Change tx change) = not (tx == 0)
is_users (records.Commit tx time authid origin) = not (tx == 0) && is_none origin
is_users (records.Abort tx) = not (tx == 0)

-- the time of a commit is no later than a time may be
abbrev pub IsEarly : LogRecord → Type 0
IsEarly (records.Change tx change) = ⊤
IsEarly (records.Commit tx time authid origin) = time ≤ time_limit
IsEarly (records.Abort tx) = ⊤

-- A user's record can follow at a server: its names are names, and its numbers and values are in their
-- ranges; it is applicable after the server's log; and the log has room for it.
pub record CanFollow (server : Server) (r : LogRecord) : Type 0 where
  pub typed : IsLogRecord r
  pub users : IsTrue (is_users r)
  pub early : IsEarly r
  pub applies : IsTrue (is_applicable (tables_of server) server.log r)
  pub short : length server.log < log_limit

-- each record can follow after those before it
abbrev pub AllFollow : Server → List LogRecord → Type 0
AllFollow server [] = ⊤
AllFollow server (r ∷ rs) = CanFollow server r × AllFollow (with_more (r ∷ []) server) rs

-- ---- units

-- Units can come to a server of a world without a step of a replica set: the origin of each is none, or a
-- known set that stands at the server, and none is from a replica set.
pub record CanCome (world : World) (server : Server) (us : List Unit) : Type 0 where
  pub origins : AllByRecursion (λ u. IsTrue (has_origin world server u)) us
  pub others : AllByRecursion (λ k. IsTrue (list_all (λ u. not (comes_from k.at_target.def.id u)) us)) (replica_sets (known_sets world))
