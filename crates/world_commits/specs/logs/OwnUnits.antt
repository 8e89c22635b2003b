-- Units of the program's own: starts and stops of registrations, in one unit at the time of the last commit.
use Rattle.std.specs.Prelude.{ℕ, ◌+◌, ◌≤◌, IsTrue, List, [], ◌∷◌, ◌++◌, length, map, Option}
use Rattle.std.specs.List.{AllByRecursion}
use Rattle.repl_types.specs.Name.{is_name}
use Rattle.repl_types.specs.declared.record.Change.{Change}
use Rattle.repl_types.specs.declared.record.LogRecord.{LogRecord}
use Rattle.repl_types.specs.declared.record.LogRecord.TheVariants as records
use Rattle.repl_types.specs.declared.record.SetId.{SetId}
use Rattle.row_codec.specs.Spelling.{IsName, IsOrigin}
use Rattle.repl_model.specs.Units.{units, last_time}
use Rattle.repl_model.specs.Tables.{table_of}
use Rattle.repl_model.specs.Applicable.{is_signal_applicable}
use Rattle.repl_model.specs.World.{Server, registered_of}
use Rattle.repl_model.specs.SoundLogs.{log_limit}

-- the records of such a unit after a log: its changes, and a commit under a name and with an origin
abbrev pub own_records : List Change → List ℕ → Option SetId → List LogRecord → List LogRecord
own_records changes authid origin log = map (λ change. records.Change 0 change) changes ++ records.Commit 0 (last_time (units log)) authid origin ∷ []

-- A start or a stop may stand in a server's log: the name of its table is a name, and is registered there.
pub record MaySignal (server : Server) (change : Change) : Type 0 where
  pub named : IsTrue (is_name (table_of change))
  pub registered : IsTrue (is_signal_applicable (map (λ r. r.reg) (registered_of server)) change)

-- Such a unit may follow at a server: its changes may stand there, its names are names, and the log has room for it.
pub record MayFollow (server : Server) (changes : List Change) (authid : List ℕ) (origin : Option SetId) : Type 0 where
  pub each : AllByRecursion (MaySignal server) changes
  pub spelled : IsName authid × IsOrigin origin
  pub room : length server.log + length (own_records changes authid origin server.log) ≤ log_limit
