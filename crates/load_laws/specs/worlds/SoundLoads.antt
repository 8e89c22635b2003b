-- What is shown of the worlds on the way of a load.
use Rattle.std.specs.Prelude.{ℕ}
use Rattle.repl_model.specs.World.{World}
use Rattle.repl_model.specs.SoundDefinitions.{DefinitionsAreSound}
use Rattle.repl_model.specs.Sound.{IsSound}
use Rattle.spelled_defs.specs.declared.defs.Defs.{Defs}
use Rattle.load_laws.specs.worlds.Loads.{load_first, load_all}

-- each world on the way of a load is sound, if the one before it is sound, and so are the definitions after it
abbrev pub StaysSound : Type 0
StaysSound = (defs : Defs) (world : World) (n : ℕ) → IsSound world → DefinitionsAreSound (load_all defs world) → IsSound (load_first defs n world)
