-- What a load leaves of the servers of a world as a whole.
use Rattle.std.proofs.Common.{subst, ◌∙◌, ◌≤◌, bytes_eq}
use Rattle.std.proofs.lemmas.List.Elements.{length_all_zip}
use Rattle.repl_model.specs.Words.{World, server_limit, beside_images, differ_images, ServerGrows, WorldGrows}
use Rattle.spelled_defs.specs.declared.defs.Defs.{Defs}
use Rattle.load_laws.specs.worlds.Loads.{load_server, load_all}
use Rattle.load_laws.specs.worlds.laws.Loaded.{server_loads}
use Rattle.load_laws.specs.rules.StaysSound.{HoldsLoaded}
use Rattle.load_laws.specs.laws.PartsOfSound.{AreFew, NamesDiffer}

-- each server becomes what a load makes of it
pub world_loads : (defs : Defs) (w : World) → WorldGrows w (load_all defs w)
world_loads defs w = beside_images ServerGrows (load_server defs) (server_loads defs) w

-- there are no more servers than there may be
pub few_stay : HoldsLoaded AreFew
few_stay raw w defs sound accepted = subst (λ n. n ≤ server_limit) (length_all_zip ServerGrows w (load_all defs w) (world_loads defs w)) sound.definitions.few

-- the names of servers differ
pub names_differ : HoldsLoaded NamesDiffer
names_differ raw w defs sound accepted = differ_images (load_server defs) (λ a b. bytes_eq a.name b.name) w ∙ sound.definitions.names
