-- What stays of a server that gets tables, registrations and sets.
use Rattle.std.proofs.Common.{◌≡◌, ℕ, true, ◌&&◌, ◌||◌, ◌⊎◌, inl, inr, List, Option, Some, None, refl, sym, ap, subst, ◌∙◌, is_some, bytes_eq}
use Rattle.std.specs.List.{AllByRecursion}
use Rattle.std.specs.Option.{option_map_or}
use Rattle.std.proofs.lemmas.Bool.{and_parts, and_from, or_cases, or_left, or_right, false≢true}
use Rattle.repl_types.specs.laws.Lists.{all_append, all_weaker}
use Rattle.repl_types.specs.declared.record.SetId.{SetId}
use Rattle.repl_types.specs.declared.unit.Unit.{Unit}
use Rattle.repl_definitions.specs.declared.set.SetDef.{SetDef}
use Rattle.repl_model.specs.World.{SourceSide, TargetSide, Server, World, server_named, source_side, target_side, is_known}
use Rattle.repl_model.specs.SoundDefinitions.{SetKeepsLimits, UnknownSource, UnknownTarget, has_origin}
use Rattle.lists.specs.laws.Members.{found_alike}
use Rattle.repl_model.specs.laws.GrowingServers.{IsNewSource, IsNewTarget, ServerGrows, WorldGrows, name_stays, source_side_found, target_side_found}
use Rattle.repl_model.specs.laws.KnownSets.{stands_at_target_stays, is_known_target_stays, is_known_stays}

-- two worlds have servers of the same names
abbrev pub HaveSameNames : World → World → Type 0
HaveSameNames u v = (name : List ℕ) → is_some (server_named name v) ≡ is_some (server_named name u)

-- the names of servers stay
pub names_stay : (w v : World) → WorldGrows w v → HaveSameNames w v
names_stay w v g name = found_alike ServerGrows (λ (a : Server). bytes_eq name a.name) (λ (b : Server). bytes_eq name b.name) (λ a b h. ap (bytes_eq name) (name_stays a b h)) w v g

-- a set keeps the limits whatever else servers have
pub limits_stay : (u v : World) → HaveSameNames u v → (def : SetDef) → SetKeepsLimits u def → SetKeepsLimits v def
limits_stay u v names def h = record {
  spelled = h.spelled;
  stored = h.stored;
  members = h.members;
  columns = h.columns;
  source = names def.source ∙ h.source;
  target = names def.target ∙ h.target;
}

-- a set that doesn't stand at its target too has had no step
pub unknown_sources : (w v : World) → WorldGrows w v → (s t : Server) → ServerGrows s t → AllByRecursion (UnknownSource w s) s.source_sets → AllByRecursion (UnknownSource v t) t.source_sets
unknown_sources w v g s t h steps = subst (AllByRecursion (UnknownSource v t)) (sym (ap (λ (a : Server). a.source_sets) h.same))
    (all_append (UnknownSource v t) s.source_sets h.more_sources
    (all_weaker (UnknownSource w s) (UnknownSource v t) s.source_sets by_side steps)
    (all_weaker IsNewSource (UnknownSource v t) h.more_sources (λ side n. inr n) h.new_sources))
  where
    by_side : (side : SourceSide) → UnknownSource w s side → UnknownSource v t side
    by_side side (inl stands) = inl (stands_at_target_stays w v g s t h side stands)
    by_side side (inr fresh) = inr fresh

-- a set that doesn't stand at its source too has had no step
pub unknown_targets : (w v : World) → WorldGrows w v → (s t : Server) → ServerGrows s t → AllByRecursion (UnknownTarget w s) s.target_sets → AllByRecursion (UnknownTarget v t) t.target_sets
unknown_targets w v g s t h steps = subst (AllByRecursion (UnknownTarget v t)) (sym (ap (λ (a : Server). a.target_sets) h.same))
    (all_append (UnknownTarget v t) s.target_sets h.more_targets
    (all_weaker (UnknownTarget w s) (UnknownTarget v t) s.target_sets by_side steps)
    (all_weaker IsNewTarget (UnknownTarget v t) h.more_targets (λ side n. inr n) h.new_targets))
  where
    by_side : (side : TargetSide) → UnknownTarget w s side → UnknownTarget v t side
    by_side side (inl stands) = inl (is_known_target_stays w v g s t h side stands)
    by_side side (inr fresh) = inr fresh

-- a set that stands at a server stands there after
stands_after : (id : SetId) (s t : Server) → ServerGrows s t → (is_some (source_side id s) || is_some (target_side id s)) ≡ true → (is_some (source_side id t) || is_some (target_side id t)) ≡ true
stands_after id s t h e = by_side (or_cases (is_some (source_side id s)) (is_some (target_side id s)) e)
  where
    at_source : (o : Option SourceSide) → source_side id s ≡ o → is_some o ≡ true → is_some (source_side id t) ≡ true
    at_source None e some = absurd (false≢true some)
    at_source (Some side) e some = ap (λ (o : Option SourceSide). is_some o) (source_side_found id s t side h e)

    at_target : (o : Option TargetSide) → target_side id s ≡ o → is_some o ≡ true → is_some (target_side id t) ≡ true
    at_target None e some = absurd (false≢true some)
    at_target (Some side) e some = ap (λ (o : Option TargetSide). is_some o) (target_side_found id s t side h e)

    by_side : (is_some (source_side id s) ≡ true) ⊎ (is_some (target_side id s) ≡ true) → (is_some (source_side id t) || is_some (target_side id t)) ≡ true
    by_side (inl some) = or_left (is_some (source_side id t)) (is_some (target_side id t)) (at_source (source_side id s) refl some)
    by_side (inr some) = or_right (is_some (source_side id t)) (is_some (target_side id t)) (at_target (target_side id s) refl some)

-- the origin of a unit stays a known set that stands at the server
pub origin_stays : (w v : World) → WorldGrows w v → (s t : Server) → ServerGrows s t → (a : Unit) → has_origin w s a ≡ true → has_origin v t a ≡ true
origin_stays w v g s t h a = by_origin a.head.origin
  where
    by_origin : (o : Option SetId) → option_map_or (λ id. is_known w id && (is_some (source_side id s) || is_some (target_side id s))) o true ≡ true → option_map_or (λ id. is_known v id && (is_some (source_side id t) || is_some (target_side id t))) o true ≡ true
    by_origin None e = refl
    by_origin (Some id) e =
        let both = and_parts (is_known w id) (is_some (source_side id s) || is_some (target_side id s)) e in
        and_from (is_known v id) (is_some (source_side id t) || is_some (target_side id t)) (is_known_stays w v id g both.0) (stands_after id s t h both.1)
