-- What is found of the source of a set whose row stands at its target.
use Rattle.std.specs.Prelude.{◌≡◌, ℕ, Option, Some, None, IfSome, slice_get}
use Rattle.std.specs.Option.{option_and_then}
use Rattle.keep_core.specs.Kept.{Kept}
use Rattle.repl_types.specs.declared.record.SetId.{SetId}
use Rattle.repl_definitions.specs.declared.set.TargetSet.{TargetSet}
use Rattle.repl_model.specs.World.{Server, SourceSide, World, server_named, source_side, target_side, known_from, server_in}
use Rattle.site_store.specs.declared.sites.Sites.{Sites}
use Rattle.site_store.specs.Views.{names, held}
use Rattle.world_store.specs.Stands.{Stands}
use Rattle.set_places.specs.declared.placed_set.PlacedSet.{PlacedSet}
use Rattle.set_places.specs.Places.{IsPlacedAtSource, IsKnownAs}

-- The source of a set in a world was found: the server of the name that the target's row says, with the set's row.
pub record IsSourceIn (w : World) (row : TargetSet) (set : PlacedSet) (server : Server) (side : SourceSide) : Type 0 where
  pub named : server_named row.def.source w ≡ Some server
  pub place : slice_get w set.source ≡ Some server
  pub found : source_side row.def.id server ≡ Some side
  pub number : slice_get server.source_sets set.at_source.number ≡ Some side
  pub def : set.at_source.def ≡ side.def

-- the source that was found is that of a world, or none was found and the world has none
abbrev pub IsFoundIn : World → TargetSet → Option PlacedSet → Type 0
IsFoundIn w row None = option_and_then (source_side row.def.id) (server_named row.def.source w) ≡ None
IsFoundIn w row (Some set) = (server : Server) × (side : SourceSide) × IsSourceIn w row set server side

-- What was found has the target and its row, and is placed at its source; and it is that of each world that the
-- servers stand for.
pub record IsFoundFrom {K : Type 0} (kept : K → Kept) (sites : Sites K) (target : ℕ) (row : TargetSet) (found : Option PlacedSet) : Type 0 where
  pub from : IfSome found (λ set. (set.target ≡ target) × (set.at_target ≡ row) × IsPlacedAtSource kept sites set)
  pub worlds : (w : World) → Stands (names sites) (held kept sites) w → IsFoundIn w row found

-- the set of a name is known at the target at a place and stands as it was found, or none was found and none is known
-- there
abbrev pub IsKnownAt : World → ℕ → SetId → Option PlacedSet → Type 0
IsKnownAt w target id None = option_and_then (known_from w (server_in w target)) (target_side id (server_in w target)) ≡ None
IsKnownAt w target id (Some set) = IsKnownAs w id (Some set)
