-- What stays sound when units are captured.
use Rattle.std.specs.Prelude.{◌≡◌, ℕ, List, ◌∷◌, ◌++◌, Some}
use Rattle.repl_types.specs.declared.unit.Unit.{Unit}
use Rattle.repl_model.specs.World.{Server, World, server_named}
use Rattle.repl_model.specs.Sound.{IsSound}
use Rattle.world_commits.specs.captures.Captures.{with_unit, uncaptured, captured}

-- the units are the first of those that a server has not captured
abbrev pub AreNext : Server → List Unit → Type 0
AreNext server us = (rest : List Unit) × (uncaptured server ≡ us ++ rest)

-- the other units aren't captured after the first of them is
abbrev pub OthersAreNext : Type 0
OthersAreNext = (server : Server) (u : Unit) (us : List Unit) → uncaptured server ≡ u ∷ us → uncaptured (with_unit u server) ≡ us

-- a world stays sound when the server of this name captures the next units of its log
abbrev pub CapturesSound : Type 0
CapturesSound = (name : List ℕ) (us : List Unit) (world : World) → IsSound world
    → ((server : Server) → server_named name world ≡ Some server → AreNext server us)
    → IsSound (captured name us world)
