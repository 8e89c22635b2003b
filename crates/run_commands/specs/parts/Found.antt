-- What is said of a set that was found, in each world for which the servers stand.
use Rattle.keep_core.specs.Kept.{Kept}
use Rattle.repl_model.specs.World.{World, KnownSet}
use Rattle.site_store.specs.Views.{names, held}
use Rattle.site_store.specs.declared.sites.Sites.{Sites}
use Rattle.world_store.specs.Stands.{Stands}
use Rattle.set_places.specs.Places.{IsPlacedAs}
use Rattle.set_places.specs.declared.placed_set.PlacedSet.{PlacedSet}

-- in each world for which servers stand, the set that was found stands as it was found, and this is said of it
abbrev pub IsKnownWith : {K : Type 0} → (K → Kept) → Sites K → PlacedSet → (World → KnownSet → Type 0) → Type 0
IsKnownWith kept sites set says = (w : World) → Stands (names sites) (held kept sites) w → (k : KnownSet) × IsPlacedAs w k set × says w k

-- this is said of each known set that stands as it was found
abbrev pub ForKnown : {K : Type 0} → (K → Kept) → Sites K → PlacedSet → (World → KnownSet → Type 0) → Type 0
ForKnown kept sites set says = (w : World) (k : KnownSet) → Stands (names sites) (held kept sites) w → IsPlacedAs w k set → says w k
