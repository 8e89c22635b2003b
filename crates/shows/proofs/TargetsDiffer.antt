-- The targets at a server of a sound world: which they are, and that no two have one name.
use Rattle.std.proofs.Common.{◌≡◌, ℕ, ◌+◌, Bool, true, false, cond, not, List, [], ◌∷◌, ◌++◌, map, filter, refl, sym, ap, ap₂, subst, ◌∙◌, inl, inr, Option, Some, None, slice_get, option_map, option_and_then, bytes_eq}
use Rattle.std.specs.List.{AllByRecursion, AllZip, enumerate_from, filter_map, flat_map}
use Rattle.std.proofs.lemmas.Bool.{and_from, both_ways}
use Rattle.std.proofs.lemmas.Option.{none-some, same_Some}
use Rattle.world_store.specs.Words.{numbered_members}
use Rattle.repl_model.specs.Words.{Member, is_replica_set, all_differ, IsSound, read_only_sets, same_place, targets_of, SourceSide, TargetSide, Server, World, KnownSet, known_from, known_sets, server_named, source_side, Embeds, embeds_before, embeds_differ, embeds_flat_map, embeds_zip, numbered_place, known_in, known_stands, In, at_each, found_in, given_in, image_in, in_filter, in_filter_map, in_flat_map, in_map, kept_by, listed_in, name_itself, same_name}
use Rattle.set_places.specs.Places.{IsReadOnly}
use Rattle.set_places.specs.laws.SetRows.{found_alone}
use Rattle.shows.specs.sets.Replies.{targets_of_set, targets_at, target_named}
use Rattle.shows.proofs.Numbered.{numbered_first}

-- ---- lists that embed in others

-- a list embeds in one that has an element before
embeds_skip : {X Y : Type 0} (R : X → Y → Type 0) (xs : List X) (y : Y) (ys : List Y) → Embeds R xs ys → Embeds R xs (y ∷ ys)
embeds_skip R [] y ys h = tt
embeds_skip R (x ∷ xs) y ys h = inr h

-- and in one that has others before
embeds_past : {X Y : Type 0} (R : X → Y → Type 0) (xs : List X) (more ys : List Y) → Embeds R xs ys → Embeds R xs (more ++ ys)
embeds_past R xs [] ys h = h
embeds_past R xs (z ∷ zs) ys h = embeds_skip R xs z (zs ++ ys) (embeds_past R xs zs ys h)

-- what embeds in the list that a function gives at an element embeds in all its lists
embeds_in_one : {X Y Z : Type 0} (R : X → Y → Type 0) (f : Z → List Y) (xs : List X) (zs : List Z) (z : Z) → In z zs → Embeds R xs (f z) → Embeds R xs (flat_map f zs)
embeds_in_one R f xs [] z i h = absurd i
embeds_in_one {X} {Y} {Z} R f xs (a ∷ zs) z (inl same) h = embeds_before R xs (f a) (flat_map f zs) (subst (λ (b : Z). Embeds R xs (f b)) same h)
embeds_in_one R f xs (a ∷ zs) z (inr i) h = embeds_past R xs (f a) (flat_map f zs) (embeds_in_one R f xs zs z i h)

-- what a filter keeps embeds in the list, with what holds of each element
embeds_kept : {X : Type 0} (P : X → Type 0) (p : X → Bool) (xs : List X) → AllByRecursion P xs → Embeds (λ x y. (y ≡ x) × P x) (filter p xs) xs
embeds_kept P p [] all = tt
embeds_kept {X} P p (x ∷ xs) all = pick (p x) (embeds_kept P p xs all.1)
  where
    pick : (b : Bool) → Embeds (λ x y. (y ≡ x) × P x) (filter p xs) xs → Embeds (λ x y. (y ≡ x) × P x) (cond b (x ∷ filter p xs) (filter p xs)) (x ∷ xs)
    pick true rest = inl ((refl, all.0), rest)
    pick false rest = embeds_skip (λ x y. (y ≡ x) × P x) (filter p xs) x xs rest

-- ---- sets that are known at a target

-- a set that is known at a target has it as its target
known_target : (w : World) (s : Server) (side : TargetSide) (k : KnownSet) → known_from w s side ≡ Some k → k.target ≡ s
known_target w s side k = by_source (server_named side.def.source w)
  where
    by_side : (source : Server) (o : Option SourceSide) → option_map (λ at_source. record { source = source; at_source = at_source; target = s; at_target = side }) o ≡ Some k → k.target ≡ s
    by_side source None e = absurd (none-some k e)
    by_side source (Some at_source) e = sym (ap (λ (l : KnownSet). l.target) (same_Some (record { source = source; at_source = at_source; target = s; at_target = side }) k e))

    by_source : (o : Option Server) → option_and_then (λ source. option_map (λ at_source. record { source = source; at_source = at_source; target = s; at_target = side }) (source_side side.def.id source)) o ≡ Some k → k.target ≡ s
    by_source None e = absurd (none-some k e)
    by_source (Some source) e = by_side source (source_side side.def.id source) e

-- a known set is known at its target
known_there : (w : World) (k : KnownSet) → In k (known_sets w) → known_from w k.target k.at_target ≡ Some k
known_there w k i =
    let stands = known_stands w k i in
    ap (option_and_then (λ (s : Server). option_map (λ (at_source : SourceSide). record { source = s; at_source = at_source; target = k.target; at_target = k.at_target }) (source_side k.at_target.def.id s))) stands.source
    ∙ ap (option_map (λ (at_source : SourceSide). record { source = k.source; at_source = at_source; target = k.target; at_target = k.at_target })) stands.at_source

-- ---- targets

-- a target of a set
abbrev pub SetTarget : Type 0
SetTarget = KnownSet × (ℕ × Member)

-- A target at a server is that of a known read-only set whose target the server is, and of its member at the place.
pub record IsOneOf (w : World) (server : Server) (t : SetTarget) : Type 0 where
  pub known : In t.0 (known_sets w)
  pub here : t.0.target ≡ server
  pub read_only : IsReadOnly t.0
  pub there : slice_get t.0.at_target.def.members t.1.0 ≡ Some t.1.1

module _ (w : World) (server : Server) (among : In server w) where
  -- the sets that are known at the server
  abbrev here : List KnownSet
  here = filter_map (known_from w server) server.target_sets

  -- each target at the server is one of such a set
  pub target_is : (t : SetTarget) → In t (targets_at w server) → IsOneOf w server t
  target_is t i =
      let at = in_flat_map targets_of_set (read_only_sets here) t i in
      let k : KnownSet = at.0 in
      let kept = in_filter (λ (l : KnownSet). not (is_replica_set l.at_target.def)) here k at.1 in
      let of = in_filter_map (known_from w server) server.target_sets k kept.0 in
      let m = in_map (λ (numbered : ℕ × Member). (k, numbered)) (numbered_members k.at_target.def) t at.2 in
      subst (IsOneOf w server) (sym m.2) (record {
        known = known_in w server of.0 k among of.1 of.2;
        here = known_target w server of.0 k of.2;
        read_only = kept.1;
        there = numbered_place k.at_target.def.members m.0 m.1;
      })

  -- each target of such a set is one at the server
  pub is_target : (t : SetTarget) → IsOneOf w server t → In t (targets_at w server)
  is_target t one =
      let k : KnownSet = t.0 in
      let stands = known_stands w k one.known in
      let given : In k (filter_map (known_from w k.target) k.target.target_sets) = given_in (known_from w k.target) k.target.target_sets k.at_target k stands.at_target (known_there w k one.known) in
      let known : In k here = subst (λ (s : Server). In k (filter_map (known_from w s) s.target_sets)) one.here given in
      listed_in targets_of_set (read_only_sets here) k t (kept_by (λ (l : KnownSet). not (is_replica_set l.at_target.def)) here k known one.read_only) (image_in (λ (numbered : ℕ × Member). (k, numbered)) (numbered_members k.at_target.def) t.1 (numbered_first k.at_target.def.members t.1.0 t.1.1 one.there))

  -- ---- no two have one name

  -- a place is that of a target at the server
  abbrev IsPlaceOf : SetTarget → List ℕ × List ℕ → Type 0
  IsPlaceOf t place = place ≡ (server.name, t.1.1.target)

  -- a set is one that is known at the server
  abbrev IsHere : KnownSet → KnownSet → Type 0
  IsHere k l = (l ≡ k) × (k.target ≡ server)

  -- the sets at the server embed in all
  sets_embed : Embeds IsHere (read_only_sets here) (known_sets w)
  unfolding known_sets
  sets_embed = embeds_in_one IsHere (λ (s : Server). filter_map (known_from w s) s.target_sets) (read_only_sets here) w server among (embeds_kept (λ (k : KnownSet). k.target ≡ server) (λ (k : KnownSet). not (is_replica_set k.at_target.def)) here
      (at_each (λ (k : KnownSet). k.target ≡ server) here (λ k i. let of = in_filter_map (known_from w server) server.target_sets k i in known_target w server of.0 k of.2)))

  -- the targets of one of them are at the places of its members
  members_zip : (k : KnownSet) → k.target ≡ server → (b : ℕ) (ms : List Member) → AllZip IsPlaceOf (map (λ (numbered : ℕ × Member). (k, numbered)) (enumerate_from b ms)) (map (λ (member : Member). (k.target.name, member.target)) ms)
  members_zip k same b [] = tt
  members_zip k same b (m ∷ ms) = (ap (λ (s : Server). (s.name, m.target)) same, members_zip k same (b + 1) ms)

  -- so they embed in those of all sets
  targets_embed : Embeds IsPlaceOf (targets_at w server) (targets_of (known_sets w))
  targets_embed = embeds_flat_map IsHere IsPlaceOf targets_of_set (λ (k : KnownSet). map (λ (member : Member). (k.target.name, member.target)) k.at_target.def.members) each (read_only_sets here) (known_sets w) sets_embed
    where
      each : (k l : KnownSet) → IsHere k l → Embeds IsPlaceOf (targets_of_set k) (map (λ (member : Member). (l.target.name, member.target)) l.at_target.def.members)
      each k l same = subst (λ (j : KnownSet). Embeds IsPlaceOf (targets_of_set k) (map (λ (member : Member). (j.target.name, member.target)) j.at_target.def.members)) (sym same.0)
          (embeds_zip IsPlaceOf (targets_of_set k) (map (λ (member : Member). (k.target.name, member.target)) k.at_target.def.members) (members_zip k same.1 0 k.at_target.def.members))

  -- two targets have one name
  abbrev alike : SetTarget → SetTarget → Bool
  alike a b = bytes_eq a.1.1.target b.1.1.target

  -- no two at the server have
  targets_differ : IsSound w → all_differ alike (targets_at w server) ≡ true
  targets_differ sound = embeds_differ IsPlaceOf alike same_place at_one_place (targets_at w server) (targets_of (known_sets w)) targets_embed sound.definitions.targets
    where
      at_one_place : (a b : SetTarget) (p q : List ℕ × List ℕ) → IsPlaceOf a p → IsPlaceOf b q → alike a b ≡ true → same_place p q ≡ true
      at_one_place a b p q at_a at_b same = ap₂ same_place at_a at_b ∙ and_from (bytes_eq server.name server.name) (alike a b) (name_itself server.name) same

  module _ (name : List ℕ) where
    -- a target with a name is the one that is found by it
    pub named_alone : IsSound w → (t : SetTarget) → IsOneOf w server t → bytes_eq name t.1.1.target ≡ true → target_named name w server ≡ Some t
    named_alone sound t one named = found_alone (λ (a : SetTarget). bytes_eq name a.1.1.target) alike (targets_at w server) t
        (λ a b p q. ap₂ bytes_eq (sym (same_name name a.1.1.target p)) (sym (same_name name b.1.1.target q)) ∙ name_itself name) (targets_differ sound) (is_target t one) named

    -- if none has the name, none is found
    pub none_named : ((t : SetTarget) → IsOneOf w server t → bytes_eq name t.1.1.target ≡ false) → target_named name w server ≡ None
    none_named none = by_found (target_named name w server) refl
      where
        by_found : (o : Option SetTarget) → target_named name w server ≡ o → o ≡ None
        by_found None found = refl
        by_found (Some t) found =
            let r = found_in (λ (a : SetTarget). bytes_eq name a.1.1.target) (targets_at w server) t found in
            absurd (both_ways (bytes_eq name t.1.1.target) (none t (target_is t r.0)) r.1)
