-- What a sound world keeps of a set that stands there as it was found.
use Rattle.std.proofs.Common.{◌≡◌, ◌<◌, ◌≤◌, length, sym, ◌∙◌, arith, not}
use Rattle.std.proofs.lemmas.Option.{slice_get_within}
use Rattle.repl_model.specs.Words.{is_replica_set, IsSound, KnownSetKeepsRules, ServerKeepsRules, SetKeepsLimits, UnknownTarget, read_only_sets, set_limit, TargetSide, World, KnownSet, known_sets, known_stands, In, at_one, kept_by}
use Rattle.set_places.specs.declared.placed_set.PlacedSet.{PlacedSet}
use Rattle.set_places.specs.Places.{IsPlacedAs, IsReadOnly}

-- it is one of the read-only sets, unless it is a replica set
pub is_among : (w : World) (k : KnownSet) (set : PlacedSet) → IsPlacedAs w k set → IsReadOnly k → In k (read_only_sets (known_sets w))
is_among w k set placed read_only = kept_by (λ (l : KnownSet). not (is_replica_set l.at_target.def)) (known_sets w) k placed.known read_only

-- a known set keeps the rules
pub set_keeps_rules : (w : World) (k : KnownSet) → IsSound w → In k (known_sets w) → KnownSetKeepsRules k
set_keeps_rules w k sound i = at_one KnownSetKeepsRules (known_sets w) k sound.definitions.sets i

-- both its rows have one definition
pub same_def : (w : World) (k : KnownSet) → IsSound w → In k (known_sets w) → k.at_source.def ≡ k.at_target.def
same_def w k sound i = (set_keeps_rules w k sound i).same

-- the definition at the source is that of the target's row that was found
pub source_def_is : (w : World) (k : KnownSet) (set : PlacedSet) → IsSound w → IsPlacedAs w k set → k.at_source.def ≡ set.at_target.def
source_def_is w k set sound placed = same_def w k sound placed.known ∙ sym placed.target_def

-- both rows that were found have one definition
pub placed_def : (w : World) (k : KnownSet) (set : PlacedSet) → IsSound w → IsPlacedAs w k set → set.at_source.def ≡ set.at_target.def
placed_def w k set sound placed = placed.source_def ∙ source_def_is w k set sound placed

-- ---- limits

module _ (w : World) (k : KnownSet) (sound : IsSound w) (known : In k (known_sets w)) where
  -- its target keeps the rules
  target_keeps : ServerKeepsRules w k.target
  target_keeps = at_one (ServerKeepsRules w) w k.target sound.definitions.servers (known_stands w k known).target

  -- a set has 64 members at most
  pub members_few : length k.at_target.def.members ≤ 64
  members_few = (at_one (λ (side : TargetSide). (side.def.target ≡ k.target.name) × SetKeepsLimits w side.def × UnknownTarget w k.target side) k.target.target_sets k.at_target target_keeps.targets (known_stands w k known).at_target).1.members.1

-- its number at its target is below the limit
pub number_few : (w : World) (k : KnownSet) (set : PlacedSet) → IsSound w → IsPlacedAs w k set → set.at_target.number < set_limit
number_few w k set sound placed = omega (arith, slice_get_within k.target.target_sets set.at_target.number k.at_target placed.at_target, (target_keeps w k sound placed.known).counts.1)
