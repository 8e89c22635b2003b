-- What stays sound when a log is made longer.
use Rattle.std.specs.Prelude.{◌≡◌, ℕ, List, Some}
use Rattle.repl_types.specs.declared.record.LogRecord.{LogRecord}
use Rattle.repl_model.specs.World.{Server, World, server_named}
use Rattle.repl_model.specs.SoundLogs.{LogIsSound}
use Rattle.repl_model.specs.Sound.{IsSound}
use Rattle.repl_model.specs.Longer.{with_more, grown, new_units}
use Rattle.world_commits.specs.logs.LongerLogs.{AllFollow, CanCome}

-- the log of a server stays sound when records follow, each of which can follow after those before it
abbrev pub LogStaysSound : Type 0
LogStaysSound = (server : Server) (rs : List LogRecord) → LogIsSound server → AllFollow server rs → LogIsSound (with_more rs server)

-- A world stays sound when the log of the server of this name is made longer, if that log stays sound, and
-- the new units can come there without a step of a replica set.
abbrev pub GrowsSound : Type 0
GrowsSound = (name : List ℕ) (more : List LogRecord) (world : World) → IsSound world
    → ((server : Server) → server_named name world ≡ Some server → LogIsSound (with_more more server))
    → ((server : Server) → server_named name world ≡ Some server → CanCome world server (new_units name more server))
    → IsSound (grown name more world)

-- a world stays sound when users' records follow at the server of this name, each of which can follow after
-- those before it
abbrev pub UsersRecordsStaySound : Type 0
UsersRecordsStaySound = (name : List ℕ) (rs : List LogRecord) (world : World) → IsSound world
    → ((server : Server) → server_named name world ≡ Some server → AllFollow server rs)
    → IsSound (grown name rs world)
