-- What is said of a sound world whose servers load definitions that were accepted.
use Rattle.repl_commands.specs.declared.written.RawDefs.{RawDefs}
use Rattle.repl_model.specs.World.{World}
use Rattle.repl_model.specs.Sound.{IsSound}
use Rattle.spelled_defs.specs.declared.defs.Defs.{Defs}
use Rattle.load_laws.specs.worlds.Loads.{load_all}
use Rattle.load_laws.specs.rules.Accepted.{Accepted}

-- it holds of a sound world once definitions that were accepted are loaded
abbrev pub HoldsLoaded : (World → Type 0) → Type 0
HoldsLoaded P = (raw : RawDefs) (world : World) (defs : Defs) → IsSound world → Accepted raw world defs → P (load_all defs world)
