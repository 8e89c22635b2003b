-- Where a set stands, at servers and in a world.
use Rattle.std.specs.Prelude.{◌≡◌, ◌≢◌, ℕ, ◌<◌, List, Option, Some, None, IfSome, IsTrue, not, length, slice_get}
use Rattle.repl_types.specs.declared.area.Area.TheVariants as areas
use Rattle.repl_types.specs.declared.record.SetId.{SetId}
use Rattle.keep_core.specs.Contents.{Contents}
use Rattle.keep_core.specs.Kept.{Kept}
use Rattle.repl_definitions.specs.Sets.{source_set_spelling, IsSourceSet, target_set_spelling, IsTargetSet}
use Rattle.repl_definitions.specs.declared.set.SourceSet.{SourceSet}
use Rattle.repl_definitions.specs.declared.set.TargetSet.{TargetSet}
use Rattle.repl_model.specs.World.{World, KnownSet, known_sets, known_set}
use Rattle.repl_model.specs.Rules.{is_replica_set}
use Rattle.site_store.specs.declared.sites.Sites.{Sites}
use Rattle.site_store.specs.Views.{names, held, sees}
use Rattle.world_store.specs.Stands.{Stands}
use Rattle.lists.specs.laws.Members.{In}
use Rattle.set_places.specs.declared.placed_set.PlacedSet.{PlacedSet}

-- ---- at servers

-- the contents have a row of a set at its source
abbrev pub HasSourceRow : SourceSet → Contents → Type 0
HasSourceRow row c = (key : List ℕ) × (c areas.Defs 2 key ≡ Some (source_set_spelling row))

-- the contents have a row of a set at its target
abbrev pub HasTargetRow : TargetSet → Contents → Type 0
HasTargetRow row c = (key : List ℕ) × (c areas.Defs 3 key ≡ Some (target_set_spelling row))

-- The source of a set is one of the servers, and is seen to have the set's row.
pub record IsPlacedAtSource {K : Type 0} (kept : K → Kept) (sites : Sites K) (set : PlacedSet) : Type 0 where
  pub within : set.source < length (names sites)
  pub row : IfSome (sees kept sites set.source) (HasSourceRow set.at_source)
  pub fits : IsSourceSet set.at_source

-- The target of a set is one of the servers, and is seen to have the set's row.
pub record IsPlacedAtTarget {K : Type 0} (kept : K → Kept) (sites : Sites K) (set : PlacedSet) : Type 0 where
  pub within : set.target < length (names sites)
  pub row : IfSome (sees kept sites set.target) (HasTargetRow set.at_target)
  pub fits : IsTargetSet set.at_target

-- A set is placed at both its ends, which are two servers.
pub record IsPlaced {K : Type 0} (kept : K → Kept) (sites : Sites K) (set : PlacedSet) : Type 0 where
  pub source : IsPlacedAtSource kept sites set
  pub target : IsPlacedAtTarget kept sites set
  pub apart : set.source ≢ set.target

-- ---- in a world

-- A known set of a world stands at these places, with these rows.
pub record IsPlacedAs (w : World) (k : KnownSet) (set : PlacedSet) : Type 0 where
  pub known : In k (known_sets w)
  pub source : slice_get w set.source ≡ Some k.source
  pub at_source : slice_get k.source.source_sets set.at_source.number ≡ Some k.at_source
  pub source_def : set.at_source.def ≡ k.at_source.def
  pub target : slice_get w set.target ≡ Some k.target
  pub at_target : slice_get k.target.target_sets set.at_target.number ≡ Some k.at_target
  pub target_def : set.at_target.def ≡ k.at_target.def

-- the set of a name is known in a world and stands as it was found, or none was found and none is known
abbrev pub IsKnownAs : World → SetId → Option PlacedSet → Type 0
IsKnownAs w id None = known_set w id ≡ None
IsKnownAs w id (Some set) = (k : KnownSet) × (known_set w id ≡ Some k) × IsPlacedAs w k set

-- the set of a world isn't a replica set
abbrev pub IsReadOnly : KnownSet → Type 0
IsReadOnly k = IsTrue (not (is_replica_set k.at_target.def))

-- what follows for each world that the servers stand for, and the read-only set that stands there as it was found
abbrev pub ForSet : {K : Type 0} → (K → Kept) → Sites K → PlacedSet → (World → KnownSet → Type 0) → Type 0
ForSet kept sites set P = (w : World) (k : KnownSet) → Stands (names sites) (held kept sites) w → IsPlacedAs w k set → IsReadOnly k → P w k
