-- The known sets of a world whose servers get tables and sets.
use Rattle.std.proofs.Common.{◌≡◌, ℕ, Bool, true, false, ◌&&◌, ◌⊎◌, inl, inr, List, Option, Some, None, refl, sym, ap, subst, ◌∙◌, is_some, IfSome, option_map, option_and_then, bytes_eq}
use Rattle.std.specs.List.{AllByRecursion, filter_map}
use Rattle.std.proofs.lemmas.Bool.{false≢true, and_parts, both_ways, cases_Bool}
use Rattle.std.proofs.lemmas.Option.{none-some, same_Some}
use Rattle.std.proofs.lemmas.List.Elements.{filter_map-append}
use Rattle.repl_types.specs.declared.record.SetId.{SetId}
use Rattle.repl_model.specs.World.{SourceSide, TargetSide, Server, World, KnownSet, same_set, server_named, source_side, known_from, known_sets, is_known}
use Rattle.lists.specs.Lists.{all_differ}
use Rattle.repl_model.specs.SoundDefinitions.{stands_at_target, UnknownSource, UnknownTarget}
use Rattle.lists.specs.laws.Members.{In, at_one, any_from, some_passes, only_one, in_either, in_filter_map, in_flat_map, given_in, listed_in, beside, beside_itself, found_in}
use Rattle.lists.specs.laws.Embedded.{Embeds, embeds_zip, embeds_before, embeds_flat_map, embeds_filter_map, embeds_in, embeds_any}
use Rattle.repl_model.specs.laws.GrowingServers.{same_id, id_itself, name_stays, ServerGrows, WorldGrows, IsNewSource, IsNewTarget, server_found, source_side_found}

-- A known set whose servers become others, and whose rows stay.
pub record SetGrows (k l : KnownSet) : Type 0 where
  pub source : ServerGrows k.source l.source
  pub at_source : l.at_source ≡ k.at_source
  pub target : ServerGrows k.target l.target
  pub at_target : l.at_target ≡ k.at_target

-- a known set whose rows say nothing yet
abbrev pub IsNewSet : KnownSet → Type 0
IsNewSet k = IsNewSource k.at_source × IsNewTarget k.at_target

-- ---- sets stay known

-- a set known at a target is known there after
known_after : (w v : World) → WorldGrows w v → (t u : Server) → ServerGrows t u → (side : TargetSide) → IfSome (known_from w t side) (λ k. (l : KnownSet) × (known_from v u side ≡ Some l) × SetGrows k l)
known_after w v g t u h side = by_source (server_named side.def.source w) refl
  where
    with_side : Server → SourceSide → KnownSet
    with_side source at_source = record { source = source; at_source = at_source; target = u; at_target = side }

    by_side : (source : Server) → server_named side.def.source w ≡ Some source → (o : Option SourceSide) → source_side side.def.id source ≡ o → IfSome (option_map (λ at_source. record { source = source; at_source = at_source; target = t; at_target = side }) o) (λ k. (l : KnownSet) × (known_from v u side ≡ Some l) × SetGrows k l)
    by_side source named None e = tt
    by_side source named (Some at_source) e =
        let r = server_found side.def.source w v source g named in (
          with_side r.0 at_source,
          ap (option_and_then (λ a. option_map (with_side a) (source_side side.def.id a))) r.1 ∙ ap (option_map (with_side r.0)) (source_side_found side.def.id source r.0 at_source r.2 e),
          record { source = r.2; at_source = refl; target = h; at_target = refl },
        )

    by_source : (o : Option Server) → server_named side.def.source w ≡ o → IfSome (option_and_then (λ source. option_map (λ at_source. record { source = source; at_source = at_source; target = t; at_target = side }) (source_side side.def.id source)) o) (λ k. (l : KnownSet) × (known_from v u side ≡ Some l) × SetGrows k l)
    by_source None e = tt
    by_source (Some source) e = by_side source e (source_side side.def.id source) refl

-- the known sets of a world stay known, in their order
pub known_stay : (w v : World) → WorldGrows w v → Embeds SetGrows (known_sets w) (known_sets v)
unfolding known_sets
known_stay w v g = embeds_flat_map ServerGrows SetGrows (λ (t : Server). filter_map (known_from w t) t.target_sets) (λ (u : Server). filter_map (known_from v u) u.target_sets) at_target w v (embeds_zip ServerGrows w v g)
  where
    at_target : (t u : Server) → ServerGrows t u → Embeds SetGrows (filter_map (known_from w t) t.target_sets) (filter_map (known_from v u) u.target_sets)
    at_target t u h = subst (λ (sides : List TargetSide). Embeds SetGrows (filter_map (known_from w t) t.target_sets) (filter_map (known_from v u) sides)) (sym (ap (λ (a : Server). a.target_sets) h.same))
        (subst (Embeds SetGrows (filter_map (known_from w t) t.target_sets)) (sym (filter_map-append (known_from v u) t.target_sets h.more_targets))
        (embeds_before SetGrows (filter_map (known_from w t) t.target_sets) (filter_map (known_from v u) t.target_sets) (filter_map (known_from v u) h.more_targets)
        (embeds_filter_map SetGrows (known_from w t) (known_from v u) t.target_sets t.target_sets
        (beside_itself (λ (a b : TargetSide). IfSome (known_from w t a) (λ k. (l : KnownSet) × (known_from v u b ≡ Some l) × SetGrows k l)) (known_after w v g t u h) t.target_sets))))

-- a set at its source that stands at its target too still does
pub stands_at_target_stays : (w v : World) → WorldGrows w v → (s t : Server) → ServerGrows s t → (side : SourceSide) → stands_at_target w s side ≡ true → stands_at_target v t side ≡ true
stands_at_target_stays w v g s t h side = embeds_any SetGrows (names_set s) (names_set t) names_after (known_sets w) (known_sets v) (known_stay w v g)
  where
    names_set : Server → KnownSet → Bool
    names_set source k = bytes_eq source.name k.source.name && same_set side.def.id k.at_target.def.id

    names_after : (k l : KnownSet) → SetGrows k l → names_set s k ≡ true → names_set t l ≡ true
    names_after k l r e =
        ap (λ (name : List ℕ). bytes_eq name l.source.name && same_set side.def.id l.at_target.def.id) (name_stays s t h)
        ∙ ap (λ (name : List ℕ). bytes_eq s.name name && same_set side.def.id l.at_target.def.id) (name_stays k.source l.source r.source)
        ∙ ap (λ (row : TargetSide). bytes_eq s.name k.source.name && same_set side.def.id row.def.id) r.at_target
        ∙ e

-- a set at its target that stands at its source too still does
pub is_known_target_stays : (w v : World) → WorldGrows w v → (s t : Server) → ServerGrows s t → (side : TargetSide) → is_some (known_from w s side) ≡ true → is_some (known_from v t side) ≡ true
is_known_target_stays w v g s t h side e = by_set (known_from w s side) e (known_after w v g s t h side)
  where
    by_set : (o : Option KnownSet) → is_some o ≡ true → IfSome o (λ k. (l : KnownSet) × (known_from v t side ≡ Some l) × SetGrows k l) → is_some (known_from v t side) ≡ true
    by_set None some after = absurd (false≢true some)
    by_set (Some k) some after = ap (λ (o : Option KnownSet). is_some o) after.1

-- a name of a known set stays one
pub is_known_stays : (w v : World) (id : SetId) → WorldGrows w v → is_known w id ≡ true → is_known v id ≡ true
is_known_stays w v id g = embeds_any SetGrows (λ (k : KnownSet). same_set id k.at_target.def.id) (λ (l : KnownSet). same_set id l.at_target.def.id) (λ k l r e. ap (λ (side : TargetSide). same_set id side.def.id) r.at_target ∙ e) (known_sets w) (known_sets v) (known_stay w v g)

-- ---- where a known set stands

-- Where a known set stands: its target is a server that has its row there, and so is its source.
pub record StandsIn (w : World) (k : KnownSet) : Type 0 where
  pub target : In k.target w
  pub at_target : In k.at_target k.target.target_sets
  pub source : server_named k.at_target.def.source w ≡ Some k.source
  pub at_source : source_side k.at_target.def.id k.source ≡ Some k.at_source

-- a known set stands at both its ends
pub known_stands : (w : World) (k : KnownSet) → In k (known_sets w) → StandsIn w k
unfolding known_sets
known_stands w k i =
    let at = in_flat_map (λ (t : Server). filter_map (known_from w t) t.target_sets) w k i in
    let of = in_filter_map (known_from w at.0) at.0.target_sets k at.2 in
    by_source at.0 of.0 at.1 of.1 (server_named of.0.def.source w) refl of.2
  where
    by_side : (t : Server) (side : TargetSide) → In t w → In side t.target_sets → (source : Server) → server_named side.def.source w ≡ Some source → (o : Option SourceSide) → source_side side.def.id source ≡ o → option_map (λ at_source. record { source = source; at_source = at_source; target = t; at_target = side }) o ≡ Some k → StandsIn w k
    by_side t side i j source named None e found = absurd (none-some k found)
    by_side t side i j source named (Some at_source) e found = subst (StandsIn w) (same_Some (record { source = source; at_source = at_source; target = t; at_target = side }) k found) (record { target = i; at_target = j; source = named; at_source = e })

    by_source : (t : Server) (side : TargetSide) → In t w → In side t.target_sets → (o : Option Server) → server_named side.def.source w ≡ o → option_and_then (λ source. option_map (λ at_source. record { source = source; at_source = at_source; target = t; at_target = side }) (source_side side.def.id source)) o ≡ Some k → StandsIn w k
    by_source t side i j None e found = absurd (none-some k found)
    by_source t side i j (Some source) e found = by_side t side i j source e (source_side side.def.id source) refl found

-- the source of a known set is a server
pub source_in : (w : World) (k : KnownSet) → StandsIn w k → In k.source w
source_in w k h = (found_in (λ (a : Server). bytes_eq k.at_target.def.source a.name) w k.source h.source).0

-- its row stands at its source
pub at_source_in : (w : World) (k : KnownSet) → StandsIn w k → In k.at_source k.source.source_sets
at_source_in w k h = (found_in (λ (a : SourceSide). same_set k.at_target.def.id a.def.id) k.source.source_sets k.at_source h.at_source).0

-- both rows have one name
pub same_ids : (w : World) (k : KnownSet) → StandsIn w k → k.at_target.def.id ≡ k.at_source.def.id
same_ids w k h = same_id k.at_target.def.id k.at_source.def.id (found_in (λ (a : SourceSide). same_set k.at_target.def.id a.def.id) k.source.source_sets k.at_source h.at_source).1

-- ---- sets that become known

-- a set that doesn't stand at both its ends has had no step
abbrev pub UnknownHasNoStep : World → Server → Type 0
UnknownHasNoStep w s = AllByRecursion (UnknownSource w s) s.source_sets × AllByRecursion (UnknownTarget w s) s.target_sets

-- a set at its source has had no step if no set of its name is known
no_step_at_source : (w : World) (s : Server) (side : SourceSide) → is_known w side.def.id ≡ false → UnknownSource w s side → IsNewSource side
no_step_at_source w s side never (inr fresh) = fresh
no_step_at_source w s side never (inl stands) =
    let k = some_passes (λ (k : KnownSet). bytes_eq s.name k.source.name && same_set side.def.id k.at_target.def.id) (known_sets w) stands in
    let both = and_parts (bytes_eq s.name k.0.source.name) (same_set side.def.id k.0.at_target.def.id) k.2 in
    absurd (both_ways (is_known w side.def.id) never (any_from (λ (k : KnownSet). same_set side.def.id k.at_target.def.id) (known_sets w) k.0 k.1 both.1))

-- a set known at a target is a known set
pub known_in : (w : World) (s : Server) (side : TargetSide) (k : KnownSet) → In s w → In side s.target_sets → known_from w s side ≡ Some k → In k (known_sets w)
unfolding known_sets
known_in w s side k i j e = listed_in (λ (t : Server). filter_map (known_from w t) t.target_sets) w s k i (given_in (known_from w s) s.target_sets side k j e)

-- it has the row at the target
pub known_side : (w : World) (s : Server) (side : TargetSide) (k : KnownSet) → known_from w s side ≡ Some k → k.at_target ≡ side
known_side w s side k = by_source (server_named side.def.source w)
  where
    by_side : (source : Server) (o : Option SourceSide) → option_map (λ at_source. record { source = source; at_source = at_source; target = s; at_target = side }) o ≡ Some k → k.at_target ≡ side
    by_side source None e = absurd (none-some k e)
    by_side source (Some at_source) e = sym (ap (λ (l : KnownSet). l.at_target) (same_Some (record { source = source; at_source = at_source; target = s; at_target = side }) k e))

    by_source : (o : Option Server) → option_and_then (λ source. option_map (λ at_source. record { source = source; at_source = at_source; target = s; at_target = side }) (source_side side.def.id source)) o ≡ Some k → k.at_target ≡ side
    by_source None e = absurd (none-some k e)
    by_source (Some source) e = by_side source (source_side side.def.id source) e

-- a set at its target has had no step if no set of its name is known
no_step_at_target : (w : World) (s : Server) (side : TargetSide) → In s w → In side s.target_sets → is_known w side.def.id ≡ false → UnknownTarget w s side → IsNewTarget side
no_step_at_target w s side i j never (inr fresh) = fresh
no_step_at_target w s side i j never (inl stands) = by_set (known_from w s side) refl stands
  where
    by_set : (o : Option KnownSet) → known_from w s side ≡ o → is_some o ≡ true → IsNewTarget side
    by_set None e some = absurd (false≢true some)
    by_set (Some k) e some = absurd (both_ways (is_known w side.def.id) never
        (any_from (λ (k : KnownSet). same_set side.def.id k.at_target.def.id) (known_sets w) k (known_in w s side k i j e)
        (subst (λ (row : TargetSide). same_set side.def.id row.def.id ≡ true) (sym (known_side w s side k e)) (id_itself side.def.id))))

-- a known set was known before, or its rows say nothing yet
pub known_before : (w v : World) → WorldGrows w v → AllByRecursion (UnknownHasNoStep w) w → all_differ (λ a b. same_set a.at_target.def.id b.at_target.def.id) (known_sets v) ≡ true → (l : KnownSet) → In l (known_sets v) → ((k : KnownSet) × In k (known_sets w) × SetGrows k l) ⊎ IsNewSet l
known_before w v g steps differ l i = by_known (cases_Bool (is_known w l.at_target.def.id))
  where
    stands : StandsIn v l
    stands = known_stands v l i

    new_source : is_known w l.at_target.def.id ≡ false → IsNewSource l.at_source
    new_source never =
        let s = beside ServerGrows w v l.source g (source_in v l stands) in
        by_place s.0 s.1 s.2 (in_either s.0.source_sets s.2.more_sources l.at_source (subst (In l.at_source) (ap (λ (a : Server). a.source_sets) s.2.same) (at_source_in v l stands)))
      where
        by_place : (s : Server) → In s w → (h : ServerGrows s l.source) → In l.at_source s.source_sets ⊎ In l.at_source h.more_sources → IsNewSource l.at_source
        by_place s j h (inl before) = no_step_at_source w s l.at_source (ap (is_known w) (sym (same_ids v l stands)) ∙ never) (at_one (UnknownSource w s) s.source_sets l.at_source (at_one (UnknownHasNoStep w) w s steps j).0 before)
        by_place s j h (inr new) = at_one IsNewSource h.more_sources l.at_source h.new_sources new

    new_target : is_known w l.at_target.def.id ≡ false → IsNewTarget l.at_target
    new_target never =
        let s = beside ServerGrows w v l.target g stands.target in
        by_place s.0 s.1 s.2 (in_either s.0.target_sets s.2.more_targets l.at_target (subst (In l.at_target) (ap (λ (a : Server). a.target_sets) s.2.same) stands.at_target))
      where
        by_place : (s : Server) → In s w → (h : ServerGrows s l.target) → In l.at_target s.target_sets ⊎ In l.at_target h.more_targets → IsNewTarget l.at_target
        by_place s j h (inl before) = no_step_at_target w s l.at_target j before never (at_one (UnknownTarget w s) s.target_sets l.at_target (at_one (UnknownHasNoStep w) w s steps j).1 before)
        by_place s j h (inr new) = at_one IsNewTarget h.more_targets l.at_target h.new_targets new

    by_known : (is_known w l.at_target.def.id ≡ true) ⊎ (is_known w l.at_target.def.id ≡ false) → ((k : KnownSet) × In k (known_sets w) × SetGrows k l) ⊎ IsNewSet l
    by_known (inl stood) =
        let k = some_passes (λ (a : KnownSet). same_set l.at_target.def.id a.at_target.def.id) (known_sets w) stood in
        let m = embeds_in SetGrows (known_sets w) (known_sets v) k.0 (known_stay w v g) k.1 in
        let e : same_set l.at_target.def.id m.0.at_target.def.id ≡ true = ap (λ (side : TargetSide). same_set l.at_target.def.id side.def.id) m.2.at_target ∙ k.2 in
        let same = only_one (λ (a b : KnownSet). same_set a.at_target.def.id b.at_target.def.id) (known_sets v) l m.0 differ i m.1 e (back l m.0 e) in
        inl (k.0, k.1, subst (SetGrows k.0) (sym same) m.2)
      where
        back : (a b : KnownSet) → same_set a.at_target.def.id b.at_target.def.id ≡ true → same_set b.at_target.def.id a.at_target.def.id ≡ true
        back a b e = subst (λ (id : SetId). same_set b.at_target.def.id id ≡ true) (sym (same_id a.at_target.def.id b.at_target.def.id e)) (id_itself b.at_target.def.id)
    by_known (inr never) = inr (new_source never, new_target never)
