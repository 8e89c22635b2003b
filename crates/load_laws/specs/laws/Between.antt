-- The definitions of a world between two others are sound.
use Rattle.std.proofs.Common.{◌≡◌, ℕ, ◌≤◌, Bool, not, ◌&&◌, ◌||◌, List, [], ◌∷◌, length, map, refl, sym, ap, ap₂, subst, ◌∙◌, IsTrue, nat_lt, bytes_eq}
use Rattle.std.specs.List.{AllByRecursion, flat_map, list_all, list_any}
use Rattle.std.proofs.lemmas.List.Elements.{length_all_zip}
use Rattle.repl_model.specs.Words.{LogRecord, Member, units, unplaced, is_signal, comes_from, SourceSide, TargetSide, World, KnownSet, same_set, known_sets, is_replica_set, all_differ, server_limit, ServerKeepsRules, KnownSetKeepsRules, same_place, targets_of, sources_of, replica_sets, waits_for_load, DefinitionsAreSound, at_one, at_each, passes_at, all_pass_from, beside_itself, Embeds, embeds_zip, embeds_in, embeds_filter, embeds_flat_map, embeds_none, embeds_differ, ServerGrows, WorldGrows, IsBetween, name_stays, log_stays, SetGrows, known_stay}
use Rattle.load_laws.specs.laws.Definitions.{servers_keep_rules, sources_stand, replicas_stand, set_keeps_rules}

-- ---- places

-- a server and one of its tables or targets
abbrev Place : Type 0
Place = List ℕ × List ℕ

-- the lists of places that related sets give embed, if they are alike
places_embed : (f : KnownSet → List Place) → ((k l : KnownSet) → SetGrows k l → f l ≡ f k) → (ks ls : List KnownSet) → Embeds SetGrows ks ls → Embeds (λ a b. b ≡ a) (flat_map f ks) (flat_map f ls)
places_embed f alike = embeds_flat_map SetGrows (λ a b. b ≡ a) f f (λ k l g. subst (Embeds (λ a b. b ≡ a) (f k)) (sym (alike k l g)) (embeds_zip (λ a b. b ≡ a) (f k) (f k) (beside_itself (λ a b. b ≡ a) (λ a. refl) (f k))))

-- the targets of known sets embed in those after
targets_embed : (ks ls : List KnownSet) → Embeds SetGrows ks ls → Embeds (λ a b. b ≡ a) (targets_of ks) (targets_of ls)
targets_embed = places_embed (λ k. map (λ member. (k.target.name, member.target)) k.at_target.def.members)
    (λ k l g. ap₂ (λ (name : List ℕ) (side : TargetSide). map (λ (member : Member). (name, member.target)) side.def.members) (name_stays k.target l.target g.target) g.at_target)

-- the sources of known sets embed in those after
sources_embed : (ks ls : List KnownSet) → Embeds SetGrows ks ls → Embeds (λ a b. b ≡ a) (sources_of ks) (sources_of ls)
sources_embed = places_embed (λ k. map (λ member. (k.source.name, member.source)) k.at_target.def.members)
    (λ k l g. ap₂ (λ (name : List ℕ) (side : TargetSide). map (λ (member : Member). (name, member.source)) side.def.members) (name_stays k.source l.source g.source) g.at_target)

-- the replica sets among known sets embed in those after
replica_sets_embed : (ks ls : List KnownSet) → Embeds SetGrows ks ls → Embeds SetGrows (replica_sets ks) (replica_sets ls)
replica_sets_embed = embeds_filter SetGrows (λ k. is_replica_set k.at_target.def) (λ l. is_replica_set l.at_target.def) (λ k l g e. ap (λ (side : TargetSide). is_replica_set side.def) g.at_target ∙ e)

-- the targets of known sets differ if those after do
targets_differ : (ks ls : List KnownSet) → Embeds SetGrows ks ls → IsTrue (all_differ same_place (targets_of ls)) → IsTrue (all_differ same_place (targets_of ks))
targets_differ ks ls h = embeds_differ (λ a b. b ≡ a) same_place same_place (λ a c b d p q e. ap₂ same_place p q ∙ e) (targets_of ks) (targets_of ls) (targets_embed ks ls h)

-- no target is a source if none is after
abbrev NoChains : List KnownSet → Type 0
NoChains sets = IsTrue (list_all (λ target. not (list_any (same_place target) (sources_of sets))) (targets_of sets))

no_chains : (ks ls : List KnownSet) → Embeds SetGrows ks ls → NoChains ls → NoChains ks
no_chains ks ls h e = all_pass_from (λ target. not (list_any (same_place target) (sources_of ks))) (targets_of ks) (λ target i.
    let r = embeds_in (λ a b. b ≡ a) (targets_of ks) (targets_of ls) target (targets_embed ks ls h) i in
    embeds_none (λ a b. b ≡ a) (same_place target) (same_place r.0) (λ a b p q. ap₂ same_place r.2 p ∙ q) (sources_of ks) (sources_of ls) (sources_embed ks ls h)
    (passes_at (λ (place : Place). not (list_any (same_place place) (sources_of ls))) (targets_of ls) r.0 e r.1))

-- ---- units

-- all servers pass a test of their logs if all after do
logs_pass : (p : List LogRecord → Bool) (w v : World) → WorldGrows w v → list_all (λ s. p s.log) v ≡ list_all (λ s. p s.log) w
logs_pass p [] [] g = refl
logs_pass p [] (t ∷ v) g = absurd g
logs_pass p (s ∷ w) [] g = absurd g
logs_pass p (s ∷ w) (t ∷ v) g = ap₂ (λ (a b : Bool). a && b) (ap p (log_stays s t g.0)) (logs_pass p w v g.1)

-- a set waits for its load if it does after
waits_before : (v f : World) → WorldGrows v f → (k l : KnownSet) → SetGrows k l → IsTrue (waits_for_load f l) → IsTrue (waits_for_load v k)
waits_before v f h k l g e =
    ap (λ (b : Bool). nat_lt 0 (length k.at_target.trail) || b) (sym (logs_pass (λ log. list_all (λ u. not (comes_from k.at_target.def.id u) || list_all is_signal (unplaced u.changes)) (units log)) v f h))
    ∙ ap (λ (side : TargetSide). nat_lt 0 (length side.trail) || list_all (λ server. list_all (λ u. not (comes_from side.def.id u) || list_all is_signal (unplaced u.changes)) (units server.log)) f) (sym g.at_target)
    ∙ e

-- ---- all definitions

-- each known set keeps the rules if each after does
sets_keep_rules : (v f : World) → WorldGrows v f → AllByRecursion (ServerKeepsRules v) v → AllByRecursion KnownSetKeepsRules (known_sets f) → AllByRecursion KnownSetKeepsRules (known_sets v)
sets_keep_rules v f h servers sets = at_each KnownSetKeepsRules (known_sets v) (λ k i.
    let r = embeds_in SetGrows (known_sets v) (known_sets f) k (known_stay v f h) i in
    let l = at_one KnownSetKeepsRules (known_sets f) r.0 sets r.1 in
    let same : k.at_source.def ≡ k.at_target.def = ap (λ (side : SourceSide). side.def) (sym r.2.at_source) ∙ l.same ∙ ap (λ (side : TargetSide). side.def) r.2.at_target in
    set_keeps_rules k r.0 r.2 (sources_stand v servers k i same) (replicas_stand v servers k i) l)

-- the definitions of a world between two others are sound, if those of the two are
pub definitions_between : (w v f : World) → WorldGrows w v → WorldGrows v f → IsBetween w v f → DefinitionsAreSound w → DefinitionsAreSound f → DefinitionsAreSound v
definitions_between w v f g h between before after = record {
  few = subst (λ n. n ≤ server_limit) (sym (length_all_zip ServerGrows v f h)) after.few;
  names = embeds_differ ServerGrows (λ a b. bytes_eq a.name b.name) (λ a b. bytes_eq a.name b.name) (λ s a t b p q e. ap₂ bytes_eq (name_stays s t p) (name_stays a b q) ∙ e) v f (embeds_zip ServerGrows v f h) after.names;
  servers = servers;
  sets = sets_keep_rules v f h servers after.sets;
  set_names = embeds_differ SetGrows (λ a b. same_set a.at_target.def.id b.at_target.def.id) (λ a b. same_set a.at_target.def.id b.at_target.def.id)
      (λ k a l b p q e. ap₂ (λ (x y : TargetSide). same_set x.def.id y.def.id) p.at_target q.at_target ∙ e) (known_sets v) (known_sets f) sets_stay after.set_names;
  targets = targets_differ (known_sets v) (known_sets f) sets_stay after.targets;
  chains = no_chains (replica_sets (known_sets v)) (replica_sets (known_sets f)) replicas_stay after.chains;
  unloaded = at_each (λ k. IsTrue (waits_for_load v k)) (replica_sets (known_sets v)) (λ k i.
      let r = embeds_in SetGrows (replica_sets (known_sets v)) (replica_sets (known_sets f)) k replicas_stay i in
      waits_before v f h k r.0 r.2 (at_one (λ l. IsTrue (waits_for_load f l)) (replica_sets (known_sets f)) r.0 after.unloaded r.1));
}
  where
    servers : AllByRecursion (ServerKeepsRules v) v
    servers = servers_keep_rules w v f g h between before.servers after.servers

    sets_stay : Embeds SetGrows (known_sets v) (known_sets f)
    sets_stay = known_stay v f h

    replicas_stay : Embeds SetGrows (replica_sets (known_sets v)) (replica_sets (known_sets f))
    replicas_stay = replica_sets_embed (known_sets v) (known_sets f) (known_stay v f h)
