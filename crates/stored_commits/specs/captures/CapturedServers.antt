-- What a server holds after it has captured units.
use Rattle.std.specs.Prelude.{◌≡◌, ℕ, zero, suc, Bool, true, false, List, Some}
use Rattle.std.specs.Str.{bytes_eq}
use Rattle.repl_types.specs.declared.area.Area.{Area}
use Rattle.repl_types.specs.declared.area.Area.TheVariants as areas
use Rattle.repl_types.specs.declared.unit.Unit.{Unit}
use Rattle.keep_core.specs.Contents.{Contents}
use Rattle.repl_model.specs.World.{Server, World, server_named}
use Rattle.repl_model.specs.Sound.{IsSound}
use Rattle.world_store.specs.Stands.{Holds}
use Rattle.world_store.specs.Becoming.{Becomes}
use Rattle.lists.specs.laws.Members.{In}
use Rattle.world_commits.specs.captures.Captures.{with_units, captured}
use Rattle.world_commits.specs.captures.StaysSound.{AreNext}
use Rattle.stored_commits.specs.units.StoredCaptures.{HasCaptured}

-- The tables that a capture changes: the change-data tables, the unit-of-work table, and what is kept of capture. The
-- area Uow has one table and the area Capture two, so the other numbers there stay empty.
abbrev pub is_of_capture : Area → ℕ → Bool
is_of_capture areas.Log n = false
is_of_capture areas.Source n = false
is_of_capture areas.Inflight n = false
is_of_capture areas.Head n = false
is_of_capture areas.Defs n = false
is_of_capture areas.Cd n = true
is_of_capture areas.Uow zero = true
is_of_capture areas.Uow (suc n) = false
is_of_capture areas.Capture zero = true
is_of_capture areas.Capture (suc zero) = true
is_of_capture areas.Capture (suc (suc n)) = false
is_of_capture areas.Prune n = false
is_of_capture areas.Spill n = false
is_of_capture areas.Target n = false
is_of_capture areas.SetState n = false
is_of_capture areas.Trail n = false

-- what a server holds has what it has captured
abbrev pub HoldsCaptured : Type 0
HoldsCaptured = (world : World) (server : Server) (contents : Contents) → Holds world server contents → HasCaptured server contents

-- the server of this name, once it has captured units, holds what the world then calls for
abbrev pub CapturedHolds : Type 0
CapturedHolds = (name : List ℕ) (us : List Unit) (world : World) (server : Server) (before now : Contents) → IsSound world → server_named name world ≡ Some server → AreNext server us
    → Holds world server before → Becomes is_of_capture (captured name us world) (with_units us server) before now → Holds (captured name us world) (with_units us server) now

-- and so do the servers of other names, as they are
abbrev pub OthersHold : Type 0
OthersHold = (name : List ℕ) (us : List Unit) (world : World) (other : Server) (held : Contents) → IsSound world → In other world → bytes_eq name other.name ≡ false
    → Holds world other held → Holds (captured name us world) other held
