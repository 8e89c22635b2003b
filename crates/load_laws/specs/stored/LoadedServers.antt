-- What a server holds after the commit of a load.
use Rattle.std.specs.Prelude.{ℕ, zero, suc, Bool, true, false}
use Rattle.repl_types.specs.declared.area.Area.{Area}
use Rattle.repl_types.specs.declared.area.Area.TheVariants as areas
use Rattle.keep_core.specs.Contents.{Contents}
use Rattle.repl_model.specs.World.{World}
use Rattle.repl_model.specs.Sound.{IsSound}
use Rattle.spelled_defs.specs.declared.defs.Defs.{Defs}
use Rattle.world_store.specs.Stands.{Holds}
use Rattle.world_store.specs.Becoming.{Becomes}
use Rattle.load_laws.specs.worlds.Loads.{load_server, server_at, load_at}

-- the tables in which a load puts rows: those of definitions, of the states of registrations and of marks
abbrev pub is_loaded : Area → ℕ → Bool
is_loaded areas.Log n = false
is_loaded areas.Source n = false
is_loaded areas.Inflight n = false
is_loaded areas.Head n = false
is_loaded areas.Defs n = true
is_loaded areas.Cd n = false
is_loaded areas.Uow n = false
is_loaded areas.Capture zero = false
is_loaded areas.Capture (suc zero) = true
is_loaded areas.Capture (suc (suc n)) = false
is_loaded areas.Prune zero = true
is_loaded areas.Prune (suc n) = false
is_loaded areas.Spill n = false
is_loaded areas.Target n = false
is_loaded areas.SetState n = false
is_loaded areas.Trail n = false

-- a server that was loaded holds what the world after that calls for
abbrev pub LoadedHolds : Type 0
LoadedHolds = (defs : Defs) (world : World) (n : ℕ) (before now : Contents) → IsSound world
    → Holds world (server_at world n) before → Becomes is_loaded (load_at defs n world) (load_server defs (server_at world n)) before now → Holds (load_at defs n world) (load_server defs (server_at world n)) now

-- and so do the other servers, as they are
abbrev pub OthersHold : Type 0
OthersHold = (defs : Defs) (world : World) (n m : ℕ) (held : Contents) → IsSound world
    → Holds world (server_at world m) held → Holds (load_at defs n world) (server_at world m) held
