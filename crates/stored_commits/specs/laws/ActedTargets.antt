-- The targets of a set's members, by the number of the set and the places of the members.
use Rattle.std.proofs.Common.{◌≡◌, ℕ, ◌+◌, ◌*◌, ◌<◌, ◌≤◌, inl, inr, length, Option, Some, None, ap, ◌∙◌, arith, ◌/◌, ◌%◌, slice_get}
use Rattle.std.specs.Option.{option_map_or, option_and_then}
use Rattle.std.proofs.lemmas.Option.{slice_get_past, slice_get_within}
use Rattle.world_store.specs.Words.{no_rows, member_table, target_table, tables, source_of}
use Rattle.repl_model.specs.Words.{Member, SourceTable, TargetSide, Server, World, KnownSet, source_named, known_sets, SetKeepsLimits, UnknownTarget, MemberIsSound, ReplicaMemberIsSound, ServerKeepsRules, KnownSetKeepsRules, read_only_sets, IsSound, at_place_in, In, at_one}
use Rattle.repl_types.specs.declared.area.Area.TheVariants as areas
use Rattle.world_commits.specs.actions.laws.Signals.{is_one_known, set_stands}
use Rattle.stored_commits.specs.actions.StoredSteps.{TargetsStand}

-- ---- one target

module _ (world : World) (server : Server) (side : TargetSide) (number place : ℕ) (is : slice_get server.target_sets number ≡ Some side) (low : place < 64) where
  -- the set's number is that of the target in 64ths
  set_of : (64 * number + place) / 64 ≡ number
  set_of = omega arith

  -- and the member's place is what is left of it
  place_of : (64 * number + place) % 64 ≡ place
  place_of = omega arith

  -- what stands at the number is of the set and of what stands at the place
  of_place : (o : Option Member) → slice_get side.def.members place ≡ o → target_table world server (64 * number + place) ≡ option_map_or (λ member. option_map_or (λ source. member_table source member side.trail) (source_of world side.def member) no_rows) o no_rows
  of_place o e =
      ap (λ (n : ℕ). option_map_or (λ (s : TargetSide). option_map_or (λ member. option_map_or (λ source. member_table source member s.trail) (source_of world s.def member) no_rows) (slice_get s.def.members ((64 * number + place) % 64)) no_rows) (slice_get server.target_sets n) no_rows) set_of
      ∙ ap (λ (p : Option TargetSide). option_map_or (λ (s : TargetSide). option_map_or (λ member. option_map_or (λ source. member_table source member s.trail) (source_of world s.def member) no_rows) (slice_get s.def.members ((64 * number + place) % 64)) no_rows) p no_rows) is
      ∙ ap (λ (n : ℕ). option_map_or (λ member. option_map_or (λ source. member_table source member side.trail) (source_of world side.def member) no_rows) (slice_get side.def.members n) no_rows) place_of
      ∙ ap (λ (p : Option Member). option_map_or (λ member. option_map_or (λ source. member_table source member side.trail) (source_of world side.def member) no_rows) p no_rows) e

  -- the target of a member is what the trail makes of it
  pub target_is : (member : Member) (source : SourceTable) → slice_get side.def.members place ≡ Some member → source_of world side.def member ≡ Some source → target_table world server (64 * number + place) ≡ member_table source member side.trail
  target_is member source e from = of_place (Some member) e ∙ ap (λ (o : Option SourceTable). option_map_or (λ source. member_table source member side.trail) o no_rows) from

  -- where no member stands is no target
  pub no_target : slice_get side.def.members place ≡ None → target_table world server (64 * number + place) ≡ no_rows
  no_target none = of_place None none

-- ---- the members of a set

module _ (world : World) (k : KnownSet) (sound : IsSound world) (i : In k (read_only_sets (known_sets world))) where
  -- a set has at most so many members
  pub few_members : length k.at_target.def.members ≤ 64
  few_members =
      let stands = set_stands world k i in
      let rules = at_one (ServerKeepsRules world) world k.target sound.definitions.servers stands.target in
      let limits = (at_one (λ (s : TargetSide). (s.def.target ≡ k.target.name) × SetKeepsLimits world s.def × UnknownTarget world k.target s) k.target.target_sets k.at_target rules.targets stands.at_target).1 in
      limits.members.1

  -- each member has a source
  pub has_source : (place : ℕ) (member : Member) → slice_get k.at_target.def.members place ≡ Some member → (source : SourceTable) × (source_named member.source k.source ≡ Some source)
  has_source place member e = elim (at_one KnownSetKeepsRules (known_sets world) k sound.definitions.sets (is_one_known world k i)).members [
    | inl all ↦ let own = at_one (MemberIsSound k) k.at_target.def.members member all.0 stands in (own.2.0, own.2.1)
    | inr all ↦ let own = at_one (ReplicaMemberIsSound k) k.at_target.def.members member all.0 stands in (own.1.0, own.1.2)
  ]
    where
      stands : In member k.at_target.def.members
      stands = at_place_in k.at_target.def.members place member e

  -- the source of a member is that of the set's source
  pub source_is : (member : Member) (source : SourceTable) → source_named member.source k.source ≡ Some source → source_of world k.at_target.def member ≡ Some source
  source_is member source e = ap (option_and_then (source_named member.source)) (set_stands world k i).source ∙ e

-- the target of a member with a place is what the trail makes of it, and a set has no other target
pub targets_stand : TargetsStand
unfolding tables
targets_stand world k number held sound i is holds = (
  λ place member source e from. holds areas.Target (64 * number + place) ∙ target_is world k.target k.at_target number place is (omega (arith, few_members world k sound i, slice_get_within k.at_target.def.members place member e)) member source e (source_is world k sound i member source from),
  λ place low past. holds areas.Target (64 * number + place) ∙ no_target world k.target k.at_target number place is low (slice_get_past k.at_target.def.members place (omega arith)),
)
