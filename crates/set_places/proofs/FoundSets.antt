-- Which set of a name is known in a world, once the rows at its ends were looked for.
use borrow.Author.Count.{below_more}
use Rattle.std.proofs.Common.{◌≡◌, ◌≢◌, ℕ, ◌+◌, ◌<◌, [], length, refl, sym, ap, subst, ◌∙◌, arith, Option, Some, None, true, IfSome, slice_get, bytes_eq}
use Rattle.std.specs.Option.{option_and_then, option_map, option_map_or}
use Rattle.std.proofs.lemmas.Bool.{false≢true, not-true}
use Rattle.std.proofs.lemmas.Option.{none-some, slice_get_within, get_or_from_slice_get}
use Rattle.world_store.specs.Words.{set_spelling, Stands}
use Rattle.site_store.specs.Words.{Kept, RowIs, AllClosed, names, held, work, sees, Looks, if_seen}
use Rattle.site_store.specs.declared.sites.Sites.{Sites}
use Rattle.repl_model.specs.Words.{SetId, target_set_spelling, IsTargetSet, SetDef, TargetSet, IsSound, empty_server, SourceSide, TargetSide, Server, World, KnownSet, same_set, server_named, source_side, target_side, known_from, known_sets, known_set, server_in, ServerKeepsRules, KnownSetKeepsRules, in_numbered, numbered_place, at_place_in, known_stands, known_in, In, at_one, found_in, same_id, name_itself}
use Rattle.repl_types.specs.declared.area.Area.TheVariants as areas
use Rattle.stored_defs.specs.laws.Standing.{same_count, keeps_at, stands_on}
use Rattle.set_places.specs.declared.placed_set.PlacedSet.{PlacedSet}
use Rattle.set_places.specs.Finding.{IsFoundIn, IsFoundFrom, IsKnownAt}
use Rattle.set_places.specs.Places.{HasTargetRow, IsPlacedAtTarget, IsPlaced, IsPlacedAs, IsKnownAs}
use Rattle.set_places.specs.laws.Staying.{placed_at_target_stays, placed_stays}
use Rattle.set_places.specs.laws.SetRows.{found_by_name, none_by_name, target_row_is, no_target_row}
use Rattle.set_places.proofs.FoundSources.{stands_there, target_read}

-- ---- in a world

-- a set as it is known at a target
abbrev known_as : Server → TargetSide → Server → SourceSide → KnownSet
known_as server side source at_source = record { source = source; at_source = at_source; target = server; at_target = side }

-- it isn't known if it doesn't stand at its source
not_known : (w : World) (server : Server) (side : TargetSide) → option_and_then (source_side side.def.id) (server_named side.def.source w) ≡ None → known_from w server side ≡ None
not_known w server side = by_source (server_named side.def.source w)
  where
    by_source : (o : Option Server) → option_and_then (source_side side.def.id) o ≡ None → option_and_then (λ source. option_map (known_as server side source) (source_side side.def.id source)) o ≡ None
    by_source None e = refl
    by_source (Some source) e = ap (option_map (known_as server side source)) e

-- and it is if it does
is_known : (w : World) (server : Server) (side : TargetSide) (source : Server) (at_source : SourceSide) → server_named side.def.source w ≡ Some source → source_side side.def.id source ≡ Some at_source → known_from w server side ≡ Some (known_as server side source at_source)
is_known w server side source at_source named stands = ap (option_and_then (λ s. option_map (known_as server side s) (source_side side.def.id s))) named ∙ ap (option_map (known_as server side source)) stands

-- the ends of a known set are two servers
known_apart : (w : World) (k : KnownSet) (set : PlacedSet) → IsSound w → IsPlacedAs w k set → set.source ≢ set.target
known_apart w k set sound placed same =
    let one : k.source ≡ k.target = ap (λ (o : Option Server). option_map_or (λ (s : Server). s) o k.source) (sym placed.source ∙ ap (slice_get w) same ∙ placed.target) in
    let alike : bytes_eq k.source.name k.target.name ≡ true = ap (bytes_eq k.source.name) (ap (λ (s : Server). s.name) (sym one)) ∙ name_itself k.source.name in
    false≢true (sym (not-true (bytes_eq k.source.name k.target.name) (at_one KnownSetKeepsRules (known_sets w) k sound.definitions.sets placed.known).apart) ∙ alike)

-- none of a name is known if none is known at any target
pub none_known : (w : World) (id : SetId) → IsSound w → ((n : ℕ) → n < length w → IsKnownAt w n id None) → known_set w id ≡ None
none_known w id sound none = none_by_name (λ (k : KnownSet). k.at_target.def.id) (known_sets w) id never
  where
    never : (k : KnownSet) → In k (known_sets w) → k.at_target.def.id ≡ id → ⊥
    never k i named =
        let stands = known_stands w k i in
        let m = in_numbered 0 w k.target stands.target in
        let at : slice_get w m.0 ≡ Some k.target = numbered_place w (m.0, k.target) m.1 in
        let server : server_in w m.0 ≡ k.target = get_or_from_slice_get w m.0 k.target (empty_server []) at in
        let keeps : ServerKeepsRules w k.target = at_one (ServerKeepsRules w) w k.target sound.definitions.servers stands.target in
        let side : target_side id k.target ≡ Some k.at_target = found_by_name (λ (s : TargetSide). s.def.id) k.target.target_sets k.at_target id keeps.target_names stands.at_target named in
        let is : known_from w k.target k.at_target ≡ Some k = is_known w k.target k.at_target k.source k.at_source stands.source stands.at_source in
        let nothing : option_and_then (known_from w k.target) (target_side id k.target) ≡ None = subst (λ (s : Server). option_and_then (known_from w s) (target_side id s) ≡ None) server (none m.0 (slice_get_within w m.0 k.target at)) in
        none-some k (sym nothing ∙ ap (option_and_then (known_from w k.target)) side ∙ is)

-- in no world that the servers stand for is a set of the name known at the targets before a place
abbrev pub NoneBefore : {K : Type 0} → (K → Kept) → Sites K → SetId → ℕ → Type 0
NoneBefore kept s0 id n = (w : World) → Stands (names s0) (held kept s0) w → (m : ℕ) → m < n → IsKnownAt w m id None

-- nor is one before the next place, if none was found at this one after reads
pub none_before_next : {K : Type 0} (kept : K → Kept) (s0 s1 : Sites K) (id : SetId) (n : ℕ) → Looks kept s0 s1 → NoneBefore kept s0 id n → ((w : World) → Stands (names s1) (held kept s1) w → IsKnownAt w n id None) → NoneBefore kept s0 id (n + 1)
none_before_next kept s0 s1 id n look before here w stands m lt = below_more (λ (q : ℕ). IsKnownAt w q id None) n (before w stands) (here w (stands_on kept s0 s1 look.most w look.stays stands)) m lt

module _ {K : Type 0} (kept : K → Kept) (s0 : Sites K) (closed : AllClosed (work kept s0)) (id : SetId) where
  -- so none is known if these are all
  pub none_at_all : NoneBefore kept s0 id (length (names s0)) → (w : World) → Stands (names s0) (held kept s0) w → IsKnownAs w id None
  none_at_all none w stands = none_known w id stands.sound (λ n lt. none w stands n (omega (arith, lt, same_count kept s0 closed w stands)))

  module _ (n : ℕ) (lt : n < length (names s0)) where
    -- none is known at a target that has no row of it
    pub none_without_row : IfSome (sees kept s0 n) (RowIs target_set_spelling areas.Defs 3 (set_spelling id) None) → (w : World) → Stands (names s0) (held kept s0) w → IsKnownAt w n id None
    none_without_row saw w stands = ap (option_and_then (known_from w (server_in w n))) (no_target_row w (server_in w n) (keeps_at kept s0 closed w stands n lt) id (target_read kept s0 closed w stands n lt id None saw))

    module _ (row : TargetSet) (fits : IsTargetSet row) (saw : IfSome (sees kept s0 n) (RowIs target_set_spelling areas.Defs 3 (set_spelling id) (Some row))) where
      -- the row is that of a set at the target
      row_stands : (w : World) → Stands (names s0) (held kept s0) w → (side : TargetSide) × (target_side id (server_in w n) ≡ Some side) × (slice_get (server_in w n).target_sets row.number ≡ Some side) × (row.def ≡ side.def)
      row_stands w stands = target_row_is w (server_in w n) (keeps_at kept s0 closed w stands n lt) id row fits (target_read kept s0 closed w stands n lt id (Some row) saw)

      -- the set is placed at the target
      placed_at_target : (set : PlacedSet) → set.target ≡ n → set.at_target ≡ row → IsPlacedAtTarget kept s0 set
      placed_at_target set target at_target = record {
        within = subst (λ (m : ℕ). m < length (names s0)) (sym target) lt;
        row = subst (λ (p : ℕ × TargetSet). IfSome (sees kept s0 p.0) (HasTargetRow p.1)) (λ i. (sym target i, sym at_target i)) (if_seen (sees kept s0 n) (RowIs target_set_spelling areas.Defs 3 (set_spelling id) (Some row)) (HasTargetRow row) (λ c has. (set_spelling id, has)) saw);
        fits = subst IsTargetSet (sym at_target) fits;
      }

      -- none is known at a target from whose row no source was found
      none_without_source : (w : World) → Stands (names s0) (held kept s0) w → IsFoundIn w row None → IsKnownAt w n id None
      none_without_source w stands none =
          let r = row_stands w stands in
          ap (option_and_then (known_from w (server_in w n))) r.1 ∙ not_known w (server_in w n) r.0 (subst (λ (def : SetDef). option_and_then (source_side def.id) (server_named def.source w) ≡ None) r.3 none)

      -- the set that stands there is the known set of the name, if its source was found
      known_as_found : (set : PlacedSet) → set.target ≡ n → set.at_target ≡ row → (w : World) → Stands (names s0) (held kept s0) w → IsFoundIn w row (Some set) → IsKnownAs w id (Some set)
      known_as_found set target at_target w stands found = (
        k,
        found_by_name (λ (a : KnownSet). a.at_target.def.id) (known_sets w) k id stands.sound.definitions.set_names known named,
        record {
          known = known;
          source = found.2.place;
          at_source = found.2.number;
          source_def = found.2.def;
          target = ap (slice_get w) target ∙ there;
          at_target = ap (λ (r : TargetSet). slice_get server.target_sets r.number) at_target ∙ side.2;
          target_def = ap (λ (r : TargetSet). r.def) at_target ∙ side.3;
        },
      )
        where
          server : Server
          server = server_in w n

          side : (side : TargetSide) × (target_side id server ≡ Some side) × (slice_get server.target_sets row.number ≡ Some side) × (row.def ≡ side.def)
          side = row_stands w stands

          k : KnownSet
          k = known_as server side.0 found.0 found.1

          there : slice_get w n ≡ Some server
          there = stands_there w n (omega (arith, lt, same_count kept s0 closed w stands))

          known : In k (known_sets w)
          known = known_in w server side.0 k (at_place_in w n server there) (at_place_in server.target_sets row.number side.0 side.2)
              (is_known w server side.0 found.0 found.1 (subst (λ (def : SetDef). server_named def.source w ≡ Some found.0) side.3 found.2.named) (subst (λ (def : SetDef). source_side def.id found.0 ≡ Some found.1) side.3 found.2.found))

          named : k.at_target.def.id ≡ id
          named = sym (same_id id side.0.def.id (found_in (λ (s : TargetSide). same_set id s.def.id) server.target_sets side.0 side.1).1)

      -- ---- after the source was looked for

      module _ (s1 s2 : Sites K) (before : Looks kept s0 s1) (after : Looks kept s1 s2) where
        -- what was found is placed at both its ends, if these are two servers
        pub placed_if_apart : (set : PlacedSet) → set.source ≢ n → IsFoundFrom kept s1 n row (Some set) → IsPlaced kept s2 set
        placed_if_apart set apart h = placed_stays kept s1 s2 set (record {
          source = h.from.2;
          target = placed_at_target_stays kept s0 s1 set (placed_at_target set h.from.0 h.from.1) before;
          apart = λ same. apart (same ∙ h.from.0);
        }) after

        -- and is what is known
        pub known_if_found : (found : Option PlacedSet) → IsFoundFrom kept s1 n row found → (w : World) → Stands (names s0) (held kept s0) w → IsKnownAt w n id found
        known_if_found None h w stands = none_without_source w stands (h.worlds w (stands_on kept s0 s1 before.most w before.stays stands))
        known_if_found (Some set) h w stands = known_as_found set h.from.0 h.from.1 w stands (h.worlds w (stands_on kept s0 s1 before.most w before.stays stands))

        -- none is known whose ends are one server
        pub none_if_same : (set : PlacedSet) → set.source ≡ n → IsFoundFrom kept s1 n row (Some set) → (w : World) → Stands (names s0) (held kept s0) w → IsKnownAt w n id None
        none_if_same set same h w stands =
            let is : IsKnownAs w id (Some set) = known_if_found (Some set) h w stands in
            absurd (known_apart w is.0 set stands.sound is.2 (same ∙ sym h.from.0))
