-- What a load does in a world, and what it leaves of the servers.
use Rattle.std.specs.Prelude.{◌≡◌, ℕ, List, [], map, Option, Some, None}
use Rattle.std.specs.Option.{option_map_or}
use Rattle.repl_types.specs.declared.area.Area.{Area}
use Rattle.repl_types.specs.declared.status.DamageCause.{DamageCause}
use Rattle.repl_types.specs.declared.refusal.Refusal.{Refusal}
use Rattle.repl_types.specs.declared.fault.Fault.{Fault}
use Rattle.repl_types.specs.declared.fault.Fault.TheVariants as faults
use Rattle.keep_core.specs.Kept.{Kept}
use Rattle.repl_commands.specs.declared.written.RawDefs.{RawDefs}
use Rattle.repl_model.specs.World.{World}
use Rattle.repl_model.specs.Sound.{IsSound}
use Rattle.repl_model.specs.SoundDefinitions.{DefinitionsAreSound}
use Rattle.run_core.specs.Runs.{Event, commits, Went, Stopped}
use Rattle.spelled_defs.specs.declared.defs.Defs.{Defs}
use Rattle.site_store.specs.Views.{names, held}
use Rattle.site_store.specs.Calls.{Blames}
use Rattle.site_store.specs.declared.sites.Sites.{Sites}
use Rattle.world_store.specs.Stands.{Stands}
use Rattle.load_laws.specs.known.Known.{known_defs}
use Rattle.load_laws.specs.worlds.Loads.{load_all}
use Rattle.load_laws.specs.rules.Accepted.{Accepted}
use Rattle.load_laws.specs.planned.Planned.{stored_servers}
use Rattle.load_laws.specs.planned.Path.{load_path}
use Rattle.load_defs.specs.Counts.{loaded_counts}
use Rattle.load_laws.specs.texts.Texts.{text_defs}
use Rattle.load_defs.specs.Planning.{load_refusal}
use Rattle.load_defs.specs.declared.counts.Loaded.{Loaded}

-- ---- what happens

-- definitions that may be loaded into a world: it is sound, they are accepted there, and its definitions stay sound
pub record MayLoad (raw : RawDefs) (world : World) (defs : Defs) : Type 0 where
  pub sound : IsSound world
  pub accepted : Accepted raw world defs
  pub after : DefinitionsAreSound (load_all defs world)

-- a load of definitions commits these worlds, one after another
abbrev pub load_commits : Defs → World → List (Event World)
load_commits defs world = map commits (load_path defs world)

-- the definitions of a text, in a world
abbrev pub defs_in : RawDefs → World → Defs
defs_in raw world = text_defs raw (known_defs world)

-- why a load of a text is refused in a world
abbrev pub refusal_in : RawDefs → World → Option Refusal
refusal_in raw world = load_refusal raw (stored_servers world)

-- the load of a text commits these worlds, and none if it is refused
abbrev pub load_events : RawDefs → World → List (Event World)
load_events raw world = option_map_or (λ refusal. []) (refusal_in raw world) (load_commits (defs_in raw world) world)

-- how many items of a text are new in a world
abbrev pub loaded_in : RawDefs → World → Loaded
loaded_in raw world = loaded_counts (known_defs world) (defs_in raw world)

module _ {K : Type 0} (kept : K → Kept) (old new : Sites K) where
  -- from each world that the servers stood for all of this happened
  abbrev pub AllHappened : (World → List (Event World)) → World → Type 0
  AllHappened events w = (t : Option (List ℕ)) → Went (Stands (names old)) (events w) w (held kept new) t t

  -- or the first of it
  abbrev pub SomeHappened : (World → List (Event World)) → World → Type 0
  SomeHappened events w = (t : Option (List ℕ)) → Stopped (Stands (names old)) (events w) w (held kept new) t t

  -- The load of a text came to its end: it wasn't refused, all its commits happened, and so many items were new.
  pub record HasLoaded (raw : RawDefs) (w : World) (loaded : Loaded) : Type 0 where
    pub accepted : refusal_in raw w ≡ None
    pub went : AllHappened (load_events raw) w
    pub counts : loaded ≡ loaded_in raw w

  -- It didn't: it was refused, and the servers hold what they held; or it stopped on its way.
  abbrev pub HasNotLoaded : RawDefs → World → Fault → Type 0
  HasNotLoaded raw w (faults.Refused refusal) = (refusal_in raw w ≡ Some refusal) × (held kept new ≡ held kept old)
  HasNotLoaded raw w faults.Memory = SomeHappened (load_events raw) w
  HasNotLoaded raw w (faults.Keeper server) = SomeHappened (load_events raw) w
  HasNotLoaded raw w (faults.Damaged server area cause) = SomeHappened (load_events raw) w

  -- who is to blame for a fault of a load, if nothing was refused; if damage is shown, the servers hold what they held
  abbrev pub BlamesOrRefuses : (ℕ → Area → DamageCause → Type 0) → Fault → Type 0
  BlamesOrRefuses damage (faults.Refused refusal) = Unit {0}
  BlamesOrRefuses damage faults.Memory = Unit {0}
  BlamesOrRefuses damage (faults.Keeper server) = Blames kept old new damage (faults.Keeper server)
  BlamesOrRefuses damage (faults.Damaged server area cause) = Blames kept old new damage (faults.Damaged server area cause) × (held kept new ≡ held kept old)
