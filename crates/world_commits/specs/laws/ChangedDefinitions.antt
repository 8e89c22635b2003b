-- The definitions of a world whose servers a commit changes stay sound.
use Rattle.std.proofs.Common.{◌≡◌, ℕ, ◌≤◌, ◌<◌, Bool, true, false, not, ◌⊎◌, inl, inr, List, [], length, map, sym, ap, ap₂, subst, ◌∙◌, IsTrue, is_some, bytes_eq}
use Rattle.std.specs.List.{AllByRecursion, list_all, list_any}
use Rattle.std.proofs.lemmas.List.{length-map}
use Rattle.std.proofs.lemmas.List.Folds.{list_all-map, flat_map-map}
use Rattle.std.proofs.Math.Path.{fun_ext}
use Rattle.repl_model.specs.Words.{all_weaker, Unit, Member, units, ServerTable, SourceSide, TargetSide, Server, World, KnownSet, same_set, known_from, known_sets, all_differ, server_limit, table_limit, set_limit, SetKeepsLimits, IsFresh, stands_at_target, UnknownSource, UnknownTarget, has_sources, has_replicas, has_origin, ServerKeepsRules, KnownSetKeepsRules, same_place, targets_of, sources_of, replica_sets, waits_for_load, DefinitionsAreSound, In, at_one, at_each, each_image, known_stands, limits_stay, differ_images}
use Rattle.world_commits.specs.captures.Captures.{with_registration}
use Rattle.world_commits.specs.laws.Changed.{ServerChange, in_states, source_row, target_row, tables_keep, sources_stand, replicas_stand, changed, changed_world, changed_set, names_stay, sets_changed, replica_sets_changed, stands_as_before, known_as_before, origin_stays}
use Rattle.world_commits.specs.laws.ChangedSets.{SetStays, set_keeps_rules}

-- the targets of sets stay
targets_stay : (f : Server → ServerChange) (sets : List KnownSet) → targets_of (map (changed_set f) sets) ≡ targets_of sets
targets_stay f sets = flat_map-map (λ (k : KnownSet). map (λ (member : Member). (k.target.name, member.target)) k.at_target.def.members) (changed_set f) sets

-- the sources of sets stay
sources_stay : (f : Server → ServerChange) (sets : List KnownSet) → sources_of (map (changed_set f) sets) ≡ sources_of sets
sources_stay f sets = flat_map-map (λ (k : KnownSet). map (λ (member : Member). (k.source.name, member.source)) k.at_target.def.members) (changed_set f) sets

-- a known set has a member
has_member : (world : World) → DefinitionsAreSound world → (k : KnownSet) → In k (known_sets world) → 0 < length k.at_target.def.members
has_member world d k i =
    let stands = known_stands world k i in
    let keeps = at_one (ServerKeepsRules world) world k.target d.servers stands.target in
    (at_one (λ (side : TargetSide). (side.def.target ≡ k.target.name) × SetKeepsLimits world side.def × UnknownTarget world k.target side) k.target.target_sets k.at_target keeps.targets stands.at_target).1.members.0

-- a server and one of its tables or targets, by their names
abbrev Place : Type 0
Place = List ℕ × List ℕ

module _ (f : Server → ServerChange) (world : World) where
  -- ---- one server

  -- The rows at a server stay whose sets don't stand at both their ends.
  pub record UnknownStay (server : Server) : Type 0 where
    pub sources : (side : SourceSide) → In side server.source_sets → (stands_at_target world server side ≡ true) ⊎ (source_row (f server).rows side ≡ side)
    pub targets : (side : TargetSide) → In side server.target_sets → (is_some (known_from world server side) ≡ true) ⊎ (target_row (f server).rows side ≡ side)

  -- the origin of each unit of the server's log is none, or a known set that stands there
  abbrev pub HasOrigins : Server → Type 0
  HasOrigins server = AllByRecursion (λ u. IsTrue (has_origin world server u)) (units (f server).log)

  -- a set that doesn't stand at its target too has had no step
  unknown_source : (server : Server) (side : SourceSide) → (stands_at_target world server side ≡ true) ⊎ (source_row (f server).rows side ≡ side) → UnknownSource world server side → UnknownSource (changed_world f world) (changed f server) (source_row (f server).rows side)
  unknown_source server side stays (inl stands) = inl (stands_as_before f world server side ∙ stands)
  unknown_source server side (inl stands) (inr fresh) = inl (stands_as_before f world server side ∙ stands)
  unknown_source server side (inr same) (inr fresh) = inr (subst (λ (row : SourceSide). IsFresh row × (row.signal ≡ 0)) (sym same) fresh)

  -- a set that doesn't stand at its source too has had no step
  unknown_target : (server : Server) (side : TargetSide) → (is_some (known_from world server side) ≡ true) ⊎ (target_row (f server).rows side ≡ side) → UnknownTarget world server side → UnknownTarget (changed_world f world) (changed f server) (target_row (f server).rows side)
  unknown_target server side stays (inl known) = inl (known_as_before f world server side ∙ known)
  unknown_target server side (inl known) (inr fresh) = inl (known_as_before f world server side ∙ known)
  unknown_target server side (inr same) (inr fresh) = inr (subst (λ (row : TargetSide). (row.flag ≡ false) × (row.trail ≡ []) × (row.signal ≡ 0)) (sym same) fresh)

  -- a server keeps the rules
  server_keeps_rules : (server : Server) → UnknownStay server → HasOrigins server → ServerKeepsRules world server → ServerKeepsRules (changed_world f world) (changed f server)
  server_keeps_rules server stays origins k = record {
    name = k.name;
    tables = tables_keep (f server).states server.tables k.tables;
    count = subst (λ (n : ℕ). n ≤ table_limit) (sym (length-map server.tables (with_registration (in_states (f server).states)))) k.count;
    differ = differ_images (with_registration (in_states (f server).states)) (λ (a b : ServerTable). bytes_eq a.def.name b.def.name) server.tables ∙ k.differ;
    sources = each_image after_source (source_row (f server).rows) server.source_sets
        (at_each (λ (side : SourceSide). after_source (source_row (f server).rows side)) server.source_sets (λ side i. source_side_keeps side i (at_one before_source server.source_sets side k.sources i)));
    targets = each_image after_target (target_row (f server).rows) server.target_sets
        (at_each (λ (side : TargetSide). after_target (target_row (f server).rows side)) server.target_sets (λ side i. target_side_keeps side i (at_one before_target server.target_sets side k.targets i)));
    counts = (
      subst (λ (n : ℕ). n ≤ set_limit) (sym (length-map server.source_sets (source_row (f server).rows))) k.counts.0,
      subst (λ (n : ℕ). n ≤ set_limit) (sym (length-map server.target_sets (target_row (f server).rows))) k.counts.1,
    );
    source_names = differ_images (source_row (f server).rows) (λ (a b : SourceSide). same_set a.def.id b.def.id) server.source_sets ∙ k.source_names;
    target_names = differ_images (target_row (f server).rows) (λ (a b : TargetSide). same_set a.def.id b.def.id) server.target_sets ∙ k.target_names;
    source_members = list_all-map (has_sources (changed f server)) (source_row (f server).rows) server.source_sets ∙ ap (λ (stand : SourceSide → Bool). list_all stand server.source_sets) (fun_ext (sources_stand (f server) server)) ∙ k.source_members;
    replica_members = list_all-map (has_replicas (changed f server)) (target_row (f server).rows) server.target_sets ∙ ap (λ (stand : TargetSide → Bool). list_all stand server.target_sets) (fun_ext (replicas_stand (f server) server)) ∙ k.replica_members;
    origins = all_weaker (λ (u : Unit). IsTrue (has_origin world server u)) (λ u. IsTrue (has_origin (changed_world f world) (changed f server) u)) (units (f server).log) (λ u e. origin_stays f world server u ∙ e) origins;
  }
    where
      before_source : SourceSide → Type 0
      before_source side = (side.def.source ≡ server.name) × SetKeepsLimits world side.def × UnknownSource world server side

      after_source : SourceSide → Type 0
      after_source side = (side.def.source ≡ server.name) × SetKeepsLimits (changed_world f world) side.def × UnknownSource (changed_world f world) (changed f server) side

      before_target : TargetSide → Type 0
      before_target side = (side.def.target ≡ server.name) × SetKeepsLimits world side.def × UnknownTarget world server side

      after_target : TargetSide → Type 0
      after_target side = (side.def.target ≡ server.name) × SetKeepsLimits (changed_world f world) side.def × UnknownTarget (changed_world f world) (changed f server) side

      source_side_keeps : (side : SourceSide) → In side server.source_sets → before_source side → after_source (source_row (f server).rows side)
      source_side_keeps side i h = (h.0, limits_stay world (changed_world f world) (names_stay f world) side.def h.1, unknown_source server side (stays.sources side i) h.2)

      target_side_keeps : (side : TargetSide) → In side server.target_sets → before_target side → after_target (target_row (f server).rows side)
      target_side_keeps side i h = (h.0, limits_stay world (changed_world f world) (names_stay f world) side.def h.1, unknown_target server side (stays.targets side i) h.2)

  -- ---- all definitions

  -- whether no target of a replica set is the source of another is as it was
  chains_stay :
      list_all (λ target. not (list_any (same_place target) (sources_of (replica_sets (known_sets (changed_world f world)))))) (targets_of (replica_sets (known_sets (changed_world f world))))
      ≡ list_all (λ target. not (list_any (same_place target) (sources_of (replica_sets (known_sets world))))) (targets_of (replica_sets (known_sets world)))
  chains_stay = ap₂ (λ (sources targets : List Place). list_all (λ target. not (list_any (same_place target) sources)) targets)
      (ap sources_of (replica_sets_changed f world) ∙ sources_stay f (replica_sets (known_sets world)))
      (ap targets_of (replica_sets_changed f world) ∙ targets_stay f (replica_sets (known_sets world)))

  -- What a commit leaves of definitions: each unit has an origin, the rows of each set that isn't known stay, those of
  -- each known set stay or are sound, and each replica set that isn't loaded waits for its load.
  pub record DefinitionsStay : Type 0 where
    pub origins : (server : Server) → In server world → HasOrigins server
    pub unknown : (server : Server) → In server world → UnknownStay server
    pub sets : (k : KnownSet) → In k (known_sets world) → SetStays f k
    pub waiting : (k : KnownSet) → In k (replica_sets (known_sets world)) → IsTrue (waits_for_load world k) → IsTrue (waits_for_load (changed_world f world) (changed_set f k))

  -- then the definitions stay sound
  pub definitions_stay : DefinitionsStay → DefinitionsAreSound world → DefinitionsAreSound (changed_world f world)
  definitions_stay stay d = record {
    few = subst (λ (n : ℕ). n ≤ server_limit) (sym (length-map world (changed f))) d.few;
    names = differ_images (changed f) (λ (a b : Server). bytes_eq a.name b.name) world ∙ d.names;
    servers = each_image (ServerKeepsRules (changed_world f world)) (changed f) world
        (at_each (λ server. ServerKeepsRules (changed_world f world) (changed f server)) world (λ server i. server_keeps_rules server (stay.unknown server i) (stay.origins server i) (at_one (ServerKeepsRules world) world server d.servers i)));
    sets = subst (AllByRecursion KnownSetKeepsRules) (sym (sets_changed f world))
        (each_image KnownSetKeepsRules (changed_set f) (known_sets world)
        (at_each (λ k. KnownSetKeepsRules (changed_set f k)) (known_sets world) (λ k i. set_keeps_rules f k (has_member world d k i) (stay.sets k i) (at_one KnownSetKeepsRules (known_sets world) k d.sets i))));
    set_names = ap (all_differ (λ (a b : KnownSet). same_set a.at_target.def.id b.at_target.def.id)) (sets_changed f world) ∙ differ_images (changed_set f) (λ (a b : KnownSet). same_set a.at_target.def.id b.at_target.def.id) (known_sets world) ∙ d.set_names;
    targets = ap (all_differ same_place) (ap targets_of (sets_changed f world) ∙ targets_stay f (known_sets world)) ∙ d.targets;
    chains = chains_stay ∙ d.chains;
    unloaded = subst (AllByRecursion (λ (k : KnownSet). IsTrue (waits_for_load (changed_world f world) k))) (sym (replica_sets_changed f world))
        (each_image (λ (k : KnownSet). IsTrue (waits_for_load (changed_world f world) k)) (changed_set f) (replica_sets (known_sets world))
        (at_each (λ (k : KnownSet). IsTrue (waits_for_load (changed_world f world) (changed_set f k))) (replica_sets (known_sets world))
        (λ k i. stay.waiting k i (at_one (λ (l : KnownSet). IsTrue (waits_for_load world l)) (replica_sets (known_sets world)) k d.unloaded i))));
  }
