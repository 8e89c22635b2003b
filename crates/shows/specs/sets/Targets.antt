-- Targets that were looked for and found, at servers and in a world.
use Rattle.std.specs.Prelude.{◌≡◌, ℕ, ◌<◌, true, false, List, Option, Some, None, IsTrue, not, length, slice_get}
use Rattle.std.specs.Str.{bytes_eq}
use Rattle.keep_core.specs.Kept.{Kept}
use Rattle.repl_definitions.specs.declared.member.Member.{Member}
use Rattle.repl_definitions.specs.declared.set.SetDef.{SetDef}
use Rattle.repl_model.specs.Rules.{is_replica_set}
use Rattle.repl_model.specs.World.{Server, World, KnownSet, known_sets}
use Rattle.site_store.specs.declared.sites.Sites.{Sites}
use Rattle.lists.specs.laws.Members.{In}
use Rattle.set_places.specs.declared.placed_set.PlacedSet.{PlacedSet}
use Rattle.set_places.specs.Places.{IsPlaced, IsPlacedAs, ForSet}
use Rattle.shows.specs.declared.targets.PlacedTarget.{PlacedTarget}
use Rattle.shows.specs.sets.Replies.{target_named}

-- ---- the members of a set

-- The member of a set at a place has a target of this name.
pub record HasTarget (name : List ℕ) (def : SetDef) (place : ℕ) : Type 0 where
  pub member : Member
  pub there : slice_get def.members place ≡ Some member
  pub named : bytes_eq name member.target ≡ true

-- no member has
abbrev pub HasNoTarget : List ℕ → SetDef → Type 0
HasNoTarget name def = (place : ℕ) (member : Member) → slice_get def.members place ≡ Some member → bytes_eq name member.target ≡ false

-- ---- at servers

-- A target of a read-only set was found at a server: the set is placed at both its ends, of which the target is this
-- server, and it has the member.
pub record IsTargetAt {K : Type 0} (kept : K → Kept) (sites : Sites K) (server : ℕ) (target : PlacedTarget) : Type 0 where
  pub placed : IsPlaced kept sites target.set
  pub here : target.set.target ≡ server
  pub read_only : IsTrue (not (is_replica_set target.set.at_target.def))
  pub member : target.member < length target.set.at_target.def.members

-- A member of a found set has a target of this name, and the set is read-only.
pub record IsTargetOf (name : List ℕ) (set : PlacedSet) (target : PlacedTarget) : Type 0 where
  pub same : target.set ≡ set
  pub read_only : IsTrue (not (is_replica_set set.at_target.def))
  pub named : HasTarget name set.at_target.def target.member

-- ---- in a world

-- The target of a name is that of a set of a world and its member at the place, and the set stands as it was found.
pub record IsTargetNamed (name : List ℕ) (w : World) (server : Server) (target : PlacedTarget) : Type 0 where
  pub k : KnownSet
  pub member : Member
  pub named : target_named name w server ≡ Some (k, (target.member, member))
  pub placed : IsPlacedAs w k target.set
  pub there : slice_get k.at_target.def.members target.member ≡ Some member

-- the target of a name is known in a world and stands as it was found, or none was found and none is known
abbrev pub IsNamedAs : List ℕ → World → Server → Option PlacedTarget → Type 0
IsNamedAs name w server None = target_named name w server ≡ None
IsNamedAs name w server (Some target) = IsTargetNamed name w server target

-- the same of the sets with one definition whose target the server is: none of them has a target of the name, if it is
-- read-only
abbrev pub IsNamedIn : List ℕ → World → Server → SetDef → Option PlacedTarget → Type 0
IsNamedIn name w server def None = (k : KnownSet) → In k (known_sets w) → k.target ≡ server → k.at_target.def ≡ def → IsTrue (not (is_replica_set def)) → HasNoTarget name def
IsNamedIn name w server def (Some target) = IsTargetNamed name w server target

-- what follows for each world that the servers stand for, the read-only set that stands there as it was found, and its
-- member at the target's place
abbrev pub ForMemberAt : {K : Type 0} → (K → Kept) → Sites K → PlacedTarget → (World → KnownSet → Member → Type 0) → Type 0
ForMemberAt kept sites target P = ForSet kept sites target.set (λ w k. (member : Member) → slice_get k.at_target.def.members target.member ≡ Some member → P w k member)
