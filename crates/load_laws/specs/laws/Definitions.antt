-- The definitions of a world between two others.
use Rattle.std.proofs.Common.{◌≡◌, ℕ, Bool, true, false, not, ◌||◌, ◌⊎◌, inl, inr, List, sym, ap₂, subst, ◌∙◌, IsTrue, is_some, bytes_eq}
use Rattle.std.specs.List.{AllByRecursion, list_all}
use Rattle.std.proofs.lemmas.Bool.{false≢true}
use Rattle.repl_model.specs.Words.{all_weaker, LogRecord, SetDef, Member, units, SourceSide, TargetSide, Server, World, KnownSet, source_named, known_sets, is_replica, SetKeepsLimits, UnknownSource, UnknownTarget, has_sources, has_replicas, has_origin, ServerKeepsRules, MemberIsSound, ReplicaMemberIsSound, KnownSetKeepsRules, In, at_one, at_each, passes_at, ServerGrows, WorldGrows, IsBetween, server_stays, name_stays, log_stays, no_table, same_source, SetGrows, known_stands, source_in, at_source_in, HaveSameNames, names_stay, limits_stay, unknown_sources, unknown_targets, origin_stays}

-- ---- one server

-- A server keeps the rules in a world if it does in one with servers of the same names, and if it became what
-- it is from one that does in a world that became this one.
server_keeps_rules : (w v u : World) → WorldGrows w v → HaveSameNames u v → (s t : Server) → ServerGrows s t → ServerKeepsRules w s → ServerKeepsRules u t → ServerKeepsRules v t
server_keeps_rules w v u g names s t h before k = record {
  name = k.name;
  tables = k.tables;
  count = k.count;
  differ = k.differ;
  sources = at_each (λ side. (side.def.source ≡ t.name) × SetKeepsLimits v side.def × UnknownSource v t side) t.source_sets (λ side i.
      let at = at_one (λ (side : SourceSide). (side.def.source ≡ t.name) × SetKeepsLimits u side.def × UnknownSource u t side) t.source_sets side k.sources i in (
        at.0,
        limits_stay u v names side.def at.1,
        at_one (UnknownSource v t) t.source_sets side
            (unknown_sources w v g s t h (all_weaker (λ side. (side.def.source ≡ s.name) × SetKeepsLimits w side.def × UnknownSource w s side) (UnknownSource w s) s.source_sets (λ side x. x.2) before.sources)) i,
      ));
  targets = at_each (λ side. (side.def.target ≡ t.name) × SetKeepsLimits v side.def × UnknownTarget v t side) t.target_sets (λ side i.
      let at = at_one (λ (side : TargetSide). (side.def.target ≡ t.name) × SetKeepsLimits u side.def × UnknownTarget u t side) t.target_sets side k.targets i in (
        at.0,
        limits_stay u v names side.def at.1,
        at_one (UnknownTarget v t) t.target_sets side
            (unknown_targets w v g s t h (all_weaker (λ side. (side.def.target ≡ s.name) × SetKeepsLimits w side.def × UnknownTarget w s side) (UnknownTarget w s) s.target_sets (λ side x. x.2) before.targets)) i,
      ));
  counts = k.counts;
  source_names = k.source_names;
  target_names = k.target_names;
  source_members = k.source_members;
  replica_members = k.replica_members;
  origins = subst (λ (log : List LogRecord). AllByRecursion (λ a. IsTrue (has_origin v t a)) (units log)) (sym (log_stays s t h))
      (all_weaker (λ a. IsTrue (has_origin w s a)) (λ a. IsTrue (has_origin v t a)) (units s.log) (origin_stays w v g s t h) before.origins);
}

-- each server of a world between two others keeps the rules, if those of the two do
pub servers_keep_rules : (w v f : World) → WorldGrows w v → WorldGrows v f → IsBetween w v f → AllByRecursion (ServerKeepsRules w) w → AllByRecursion (ServerKeepsRules f) f → AllByRecursion (ServerKeepsRules v) v
servers_keep_rules w v f g h between before after = at_each (ServerKeepsRules v) v (λ t i. by_place t (between t i))
  where
    by_place : (t : Server) → In t w ⊎ ((s : Server) × In s w × ServerGrows s t × In t f) → ServerKeepsRules v t
    by_place t (inl i) = let k = at_one (ServerKeepsRules w) w t before i in server_keeps_rules w v w g (names_stay w v g) t t (server_stays t) k k
    by_place t (inr r) = server_keeps_rules w v f g (λ name. sym (names_stay v f h name)) r.0 t r.2 (at_one (ServerKeepsRules w) w r.0 before r.1) (at_one (ServerKeepsRules f) f t after r.3)

-- ---- one known set

-- each member of a known set is over a registered table of its source
abbrev pub SourcesStand : KnownSet → Type 0
SourcesStand k = list_all (λ member. is_some (source_named member.source k.source)) k.at_target.def.members ≡ true

-- each replica of a known set is a registered table of its target
abbrev ReplicasStand : KnownSet → Type 0
ReplicasStand k = list_all (λ member. not (is_replica member.kind) || is_some (source_named member.target k.target)) k.at_target.def.members ≡ true

-- the members of a known set have their sources
pub sources_stand : (w : World) → AllByRecursion (ServerKeepsRules w) w → (k : KnownSet) → In k (known_sets w) → k.at_source.def ≡ k.at_target.def → SourcesStand k
sources_stand w servers k i same =
    let stands = known_stands w k i in
    subst (λ (def : SetDef). list_all (λ member. is_some (source_named member.source k.source)) def.members ≡ true) same
    (passes_at (has_sources k.source) k.source.source_sets k.at_source (at_one (ServerKeepsRules w) w k.source servers (source_in w k stands)).source_members (at_source_in w k stands))

-- the replicas of a known set are registered
pub replicas_stand : (w : World) → AllByRecursion (ServerKeepsRules w) w → (k : KnownSet) → In k (known_sets w) → ReplicasStand k
replicas_stand w servers k i =
    let stands = known_stands w k i in
    passes_at (has_replicas k.target) k.target.target_sets k.at_target (at_one (ServerKeepsRules w) w k.target servers stands.target).replica_members stands.at_target

-- a known set keeps the rules if it does after, and its members have their sources and replicas
pub set_keeps_rules : (k l : KnownSet) → SetGrows k l → SourcesStand k → ReplicasStand k → KnownSetKeepsRules l → KnownSetKeepsRules k
set_keeps_rules k l g sources replicas h = record {
  same = now.same;
  apart = ap₂ (λ (a b : List ℕ). not (bytes_eq a b)) (sym (name_stays k.source l.source g.source)) (sym (name_stays k.target l.target g.target)) ∙ now.apart;
  members = elim now.members [
    | inl m ↦ inl (at_each (MemberIsSound k) members (λ member i. read_only member i (at_one (MemberIsSound with_rows) members member m.0 i)), m.1, m.2, m.3, m.4)
    | inr m ↦ inr (at_each (ReplicaMemberIsSound k) members (λ member i. replica member i (at_one (ReplicaMemberIsSound with_rows) members member m.0 i)), m.1, m.2, m.3, m.4)
  ];
}
  where
    with_rows : KnownSet
    with_rows = record { source = l.source; at_source = k.at_source; target = l.target; at_target = k.at_target }

    now : KnownSetKeepsRules with_rows
    now = subst KnownSetKeepsRules (ap₂ (λ (at_source : SourceSide) (at_target : TargetSide). record { source = l.source; at_source = at_source; target = l.target; at_target = at_target }) g.at_source g.at_target) h

    members : List Member
    members = k.at_target.def.members

    source_stands : (member : Member) → In member members → is_some (source_named member.source k.source) ≡ true
    source_stands member i = passes_at (λ (m : Member). is_some (source_named m.source k.source)) members member sources i

    replica_stands : (member : Member) → In member members → is_replica member.kind ≡ true → is_some (source_named member.target k.target) ≡ true
    replica_stands member i kind = by_cases (is_replica member.kind) kind (passes_at (λ (m : Member). not (is_replica m.kind) || is_some (source_named m.target k.target)) members member replicas i)
      where
        by_cases : (b : Bool) → b ≡ true → (not b || is_some (source_named member.target k.target)) ≡ true → is_some (source_named member.target k.target) ≡ true
        by_cases true kind e = e
        by_cases false kind e = absurd (false≢true kind)

    read_only : (member : Member) → In member members → MemberIsSound with_rows member → MemberIsSound k member
    read_only member i m = (m.0, no_table member.target k.target l.target g.target m.1, (m.2.0, same_source member.source k.source l.source m.2.0 g.source (source_stands member i) m.2.1, m.2.2))

    replica : (member : Member) → In member members → ReplicaMemberIsSound with_rows member → ReplicaMemberIsSound k member
    replica member i m = (m.0, (m.1.0, m.1.1, same_source member.source k.source l.source m.1.0 g.source (source_stands member i) m.1.2, same_source member.target k.target l.target m.1.1 g.target (replica_stands member i m.0) m.1.3, m.1.4))
