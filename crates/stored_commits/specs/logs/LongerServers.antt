-- What a server holds after further records of its log.
use Rattle.std.specs.Prelude.{◌≡◌, ℕ, zero, suc, Bool, true, false, List, Some}
use Rattle.std.specs.Str.{bytes_eq}
use Rattle.repl_types.specs.declared.area.Area.{Area}
use Rattle.repl_types.specs.declared.area.Area.TheVariants as areas
use Rattle.repl_types.specs.declared.record.LogRecord.{LogRecord}
use Rattle.keep_core.specs.Contents.{Contents}
use Rattle.repl_model.specs.World.{Server, World, server_named}
use Rattle.repl_model.specs.Sound.{IsSound}
use Rattle.repl_model.specs.Longer.{with_more, grown}
use Rattle.world_store.specs.Stands.{Holds}
use Rattle.world_store.specs.Becoming.{Becomes}
use Rattle.lists.specs.laws.Members.{In}

-- The tables that a longer log changes: the log, all tables of the source, what is in flight, and the end of the
-- log. The areas Log, Inflight and Head have one table each, so the numbers above 0 there stay empty.
abbrev pub is_of_log : Area → ℕ → Bool
is_of_log areas.Log zero = true
is_of_log areas.Log (suc n) = false
is_of_log areas.Source n = true
is_of_log areas.Inflight zero = true
is_of_log areas.Inflight (suc n) = false
is_of_log areas.Head zero = true
is_of_log areas.Head (suc n) = false
is_of_log areas.Defs n = false
is_of_log areas.Cd n = false
is_of_log areas.Uow n = false
is_of_log areas.Capture n = false
is_of_log areas.Prune n = false
is_of_log areas.Spill n = false
is_of_log areas.Target n = false
is_of_log areas.SetState n = false
is_of_log areas.Trail n = false

-- each server of a sound world holds, as it is, what the world with the longer log of one server calls for
abbrev pub StillHolds : Type 0
StillHolds = (name : List ℕ) (more : List LogRecord) (world : World) (server : Server) (held : Contents) → IsSound world → In server world
    → Holds world server held → Holds (grown name more world) server held

-- the server of this name, with the longer log, then holds what the world with the longer log calls for
abbrev pub LoggedHolds : Type 0
LoggedHolds = (name : List ℕ) (more : List LogRecord) (world : World) (server : Server) (before now : Contents) → IsSound world → server_named name world ≡ Some server
    → Holds world server before → Becomes is_of_log (grown name more world) (with_more more server) before now → Holds (grown name more world) (with_more more server) now

-- and so do the servers of other names, as they are
abbrev pub OthersHold : Type 0
OthersHold = (name : List ℕ) (more : List LogRecord) (world : World) (other : Server) (held : Contents) → IsSound world → In other world → bytes_eq name other.name ≡ false
    → Holds world other held → Holds (grown name more world) other held
