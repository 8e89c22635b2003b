-- Which target of a name is known in a world, once the sets whose target a server is were looked through.
use borrow.Author.Count.{below_more}
use Rattle.std.proofs.Common.{◌≡◌, ℕ, ◌+◌, ◌<◌, true, false, not, List, [], ◌∷◌, length, map, get_or, refl, sym, ap, subst, ◌∙◌, arith, inl, inr, Option, Some, None, IsTrue, IfSome, MatchOption, slice_get, bytes_eq}
use Rattle.std.proofs.lemmas.Bool.{cases_lt}
use Rattle.std.proofs.lemmas.Option.{none-some, same_Some, slice_get_within, slice_get-get_or, get_or_from_slice_get}
use Rattle.world_store.specs.Words.{IsSet, set_spelling, table_from_rows, fits_each, row_of, target_set_rows, Stands, RowFits, target_rows_are}
use Rattle.site_store.specs.Words.{Kept, AllClosed, names, held, work, sees, Looks}
use Rattle.site_store.specs.declared.sites.Sites.{Sites}
use Rattle.repl_model.specs.Words.{SetId, IsTargetSet, target_set_spelling, Member, SetDef, TargetSet, is_replica_set, empty_server, TargetSide, Server, World, KnownSet, known_sets, known_set, target_side, server_in, ServerKeepsRules, in_numbered, numbered_place, known_stands, In, image_in, in_map, in_second}
use Rattle.repl_types.specs.declared.area.Area.TheVariants as areas
use Rattle.stored_defs.specs.Reading.{HasRecords}
use Rattle.stored_defs.specs.laws.Standing.{same_count, keeps_at, name_at_place, targets_read}
use Rattle.set_places.specs.declared.placed_set.PlacedSet.{PlacedSet}
use Rattle.set_places.specs.Places.{IsPlaced, IsPlacedAs, IsKnownAs}
use Rattle.set_places.specs.laws.SetRows.{found_by_name, no_target_row, target_row_is}
use Rattle.shows.specs.declared.targets.PlacedTarget.{PlacedTarget}
use Rattle.shows.specs.sets.Targets.{HasNoTarget, IsTargetAt, IsTargetOf, IsNamedAs, IsNamedIn}
use Rattle.shows.proofs.SetBlame.{server_among}
use Rattle.shows.proofs.AfterReads.{still_stands}
use Rattle.shows.proofs.TargetsDiffer.{SetTarget, IsOneOf, named_alone, none_named}

-- ---- the set of a definition

module _ {K : Type 0} (kept : K → Kept) (s0 : Sites K) (closed : AllClosed (work kept s0)) (w : World) (stands : Stands (names s0) (held kept s0) w) (server : ℕ) (within : server < length (names s0)) where
  -- the server
  abbrev here : Server
  here = server_in w server

  -- it stands at its place
  at_here : slice_get w server ≡ Some here
  at_here = slice_get-get_or w server (empty_server []) (omega (arith, within, same_count kept s0 closed w stands))

  -- a server stands at one place
  one_place : (n : ℕ) → n < length (names s0) → slice_get w n ≡ Some here → n ≡ server
  one_place n lt at = elim (cases_lt n server) [
    | inl before ↦ absurd (s0.servers.apart n server before within (name n ∙ ap (λ (s : Server). s.name) same ∙ sym (name server)))
    | inr not_before ↦ elim (cases_lt server n) [
      | inl after ↦ absurd (s0.servers.apart server n after lt (name server ∙ ap (λ (s : Server). s.name) (sym same) ∙ sym (name n)))
      | inr not_after ↦ omega (arith, not_before, not_after)
    ]
  ]
    where
      same : server_in w n ≡ here
      same = get_or_from_slice_get w n here (empty_server []) at

      name : (m : ℕ) → get_or (names s0) m [] ≡ (server_in w m).name
      name m = ap (λ (l : List (List ℕ)). get_or l m []) (sym stands.named) ∙ name_at_place w m

  module _ (def : SetDef) where
    -- a known set with the definition is the known set of its name
    known_is : (k : KnownSet) → In k (known_sets w) → k.at_target.def ≡ def → known_set w def.id ≡ Some k
    known_is k known same = found_by_name (λ (l : KnownSet). l.at_target.def.id) (known_sets w) k def.id stands.sound.definitions.set_names known (ap (λ (d : SetDef). d.id) same)

    module _ (name : List ℕ) where
      -- no set is known that has the definition
      pub none_if_unknown : IsKnownAs w def.id None → IsNamedIn name w here def None
      none_if_unknown unknown k known target same read_only = absurd (none-some k (sym unknown ∙ known_is k known same))

      module _ (set : PlacedSet) (found : IsKnownAs w def.id (Some set)) where
        -- the set that was found is the one that is known
        found_is : (k : KnownSet) → In k (known_sets w) → k.at_target.def ≡ def → found.0 ≡ k
        found_is k known same = same_Some found.0 k (sym found.1 ∙ known_is k known same)

        -- it was found at another target
        pub none_if_elsewhere : set.target < length (names s0) → (set.target ≡ server → ⊥) → IsNamedIn name w here def None
        none_if_elsewhere lt elsewhere k known target same read_only = absurd (elsewhere (one_place set.target lt (found.2.target ∙ ap (λ (l : KnownSet). Some l.target) (found_is k known same) ∙ ap Some target)))

        -- it has no target of the name
        pub none_in_set : (IsTrue (not (is_replica_set set.at_target.def)) → HasNoTarget name set.at_target.def) → IsNamedIn name w here def None
        none_in_set none k known target same read_only =
            let is : set.at_target.def ≡ def = found.2.target_def ∙ ap (λ (l : KnownSet). l.at_target.def) (found_is k known same) ∙ same in
            subst (HasNoTarget name) is (none (subst (λ (d : SetDef). not (is_replica_set d) ≡ true) (sym is) read_only))

        -- it has one
        pub one_in_set : set.target ≡ server → (target : PlacedTarget) → IsTargetOf name set target → IsNamedIn name w here def (Some target)
        one_in_set at target of =
            let k : KnownSet = found.0 in
            let member : Member = of.named.member in
            let there : slice_get k.at_target.def.members target.member ≡ Some member = ap (λ (d : SetDef). slice_get d.members target.member) (sym found.2.target_def) ∙ of.named.there in
            record {
              k = k;
              member = member;
              named = named_alone w here (server_among kept s0 closed w stands server within) name stands.sound (k, (target.member, member)) (record {
                known = found.2.known;
                here = same_Some k.target here (sym found.2.target ∙ ap (slice_get w) at ∙ at_here);
                read_only = subst (λ (d : SetDef). not (is_replica_set d) ≡ true) found.2.target_def of.read_only;
                there = there;
              }) of.named.named;
              placed = subst (IsPlacedAs w k) (sym of.same) found.2;
              there = there;
            }

  -- ---- all sets at the server

  -- the definition of a known set whose target the server is was read
  was_read : (records : List TargetSet) → IfSome (sees kept s0 server) (HasRecords IsSet set_spelling IsTargetSet target_set_spelling areas.Defs 3 records) → (k : KnownSet) → In k (known_sets w) → k.target ≡ here → (n : ℕ) × (row : TargetSet) × (slice_get records n ≡ Some row) × (k.at_target.def ≡ row.def)
  was_read records read k known target =
      let of_row = in_map (λ (r : TargetSet). r.def) records k.at_target.def (subst (In k.at_target.def) (sym (targets_read kept s0 closed w stands server records within read)) (stored (table_from_rows set_spelling target_set_spelling (target_set_rows here) (set_spelling k.at_target.def.id)) refl)) in
      let m = in_numbered 0 records of_row.0 of_row.1 in
      (m.0, of_row.0, numbered_place records (m.0, of_row.0) m.1, of_row.2)
    where
      keeps : ServerKeepsRules w here
      keeps = keeps_at kept s0 closed w stands server within

      id : SetId
      id = k.at_target.def.id

      side : target_side id here ≡ Some k.at_target
      side = found_by_name (λ (s : TargetSide). s.def.id) here.target_sets k.at_target id keeps.target_names (subst (λ (s : Server). In k.at_target s.target_sets) target (known_stands w k known).at_target) refl

      stored : (o : Option (List ℕ)) → table_from_rows set_spelling target_set_spelling (target_set_rows here) (set_spelling id) ≡ o → In k.at_target.def (map (λ (r : SetId × TargetSet). r.1.def) (target_set_rows here))
      stored None none = absurd (none-some k.at_target (sym (no_target_row w here keeps id none) ∙ side))
      stored (Some bytes) has =
          let found = row_of set_spelling target_set_spelling (target_set_rows here) (set_spelling id) bytes has in
          let row : SetId × TargetSet = found.0 in
          let fits = fits_each (RowFits IsSet IsTargetSet) (target_set_rows here) row (target_rows_are w here keeps).fit found.1 in
          let r = target_row_is w here keeps id row.1 fits.1 (has ∙ ap Some (sym found.3)) in
          let is : row.1.def ≡ k.at_target.def = r.3 ∙ ap (λ (s : TargetSide). s.def) (same_Some r.0 k.at_target (sym r.1 ∙ side)) in
          let i : In row (target_set_rows here) = subst (In row) (sym found.1.split) (in_second found.1.front (row ∷ found.1.back) row (inl refl)) in
          subst (λ (d : SetDef). In d (map (λ (r : SetId × TargetSet). r.1.def) (target_set_rows here))) is (image_in (λ (r : SetId × TargetSet). r.1.def) (target_set_rows here) row i)

  -- none of the name is known if no set whose row was read has one
  pub none_at_all : (name : List ℕ) (records : List TargetSet) → IfSome (sees kept s0 server) (HasRecords IsSet set_spelling IsTargetSet target_set_spelling areas.Defs 3 records) → ((n : ℕ) → n < length records → (row : TargetSet) → slice_get records n ≡ Some row → IsNamedIn name w here row.def None) → IsNamedAs name w here None
  none_at_all name records read none = none_named w here (server_among kept s0 closed w stands server within) name each
    where
      each : (t : SetTarget) → IsOneOf w here t → bytes_eq name t.1.1.target ≡ false
      each t one =
          let r = was_read records read t.0 one.known one.here in
          none r.0 (slice_get_within records r.0 r.1 r.2) r.1 r.2 t.0 one.known one.here r.3 (subst (λ (d : SetDef). not (is_replica_set d) ≡ true) r.3 one.read_only) t.1.0 t.1.1 (ap (λ (d : SetDef). slice_get d.members t.1.0) (sym r.3) ∙ one.there)

-- ---- one row after another

-- in no world that the servers stand for has a set whose row is before a place a target of the name
abbrev pub NoneBefore : {K : Type 0} → (K → Kept) → Sites K → ℕ → List ℕ → List TargetSet → ℕ → Type 0
NoneBefore kept s0 server name records n = (w : World) → Stands (names s0) (held kept s0) w → (m : ℕ) → m < n → (row : TargetSet) → slice_get records m ≡ Some row → IsNamedIn name w (server_in w server) row.def None

-- nor has one before the next place, if none was found at this one after reads
pub none_before_next : {K : Type 0} (kept : K → Kept) (s0 s1 : Sites K) (server : ℕ) (name : List ℕ) (records : List TargetSet) (n : ℕ) (row : TargetSet) → Looks kept s0 s1 → slice_get records n ≡ Some row → NoneBefore kept s0 server name records n → ((w : World) → Stands (names s1) (held kept s1) w → IsNamedIn name w (server_in w server) row.def None) → NoneBefore kept s0 server name records (n + 1)
none_before_next kept s0 s1 server name records n row look at before here w stands m lt = below_more (λ (q : ℕ). (r : TargetSet) → slice_get records q ≡ Some r → IsNamedIn name w (server_in w server) r.def None) n (before w stands)
    (λ r is. subst (λ (t : TargetSet). IsNamedIn name w (server_in w server) t.def None) (same_Some row r (sym at ∙ is)) (here w (still_stands kept s0 s1 look w stands))) m lt

-- ---- the set that was found

module _ {K : Type 0} (kept : K → Kept) (name : List ℕ) (set : PlacedSet) where
  -- what was found in it is placed at the server
  pub placed_if_found : (s1 : Sites K) (server : ℕ) (found : Option PlacedTarget) → MatchOption found (IsTrue (not (is_replica_set set.at_target.def)) → HasNoTarget name set.at_target.def) (IsTargetOf name set) → IsPlaced kept s1 set → set.target ≡ server → IfSome found (IsTargetAt kept s1 server)
  placed_if_found s1 server None of placed at = tt
  placed_if_found s1 server (Some target) of placed at = record {
    placed = subst (IsPlaced kept s1) (sym of.same) placed;
    here = ap (λ (q : PlacedSet). q.target) of.same ∙ at;
    read_only = subst (λ (q : PlacedSet). not (is_replica_set q.at_target.def) ≡ true) (sym of.same) of.read_only;
    member = subst (λ (q : PlacedSet). target.member < length q.at_target.def.members) (sym of.same) (slice_get_within set.at_target.def.members target.member of.named.member of.named.there);
  }

  module _ (s0 : Sites K) (closed : AllClosed (work kept s0)) (server : ℕ) (within : server < length (names s0)) (def : SetDef) where
    -- and is what the world has
    pub named_if_found : (found : Option PlacedTarget) → MatchOption found (IsTrue (not (is_replica_set set.at_target.def)) → HasNoTarget name set.at_target.def) (IsTargetOf name set) → set.target ≡ server → ((w : World) → Stands (names s0) (held kept s0) w → IsKnownAs w def.id (Some set)) → (w : World) → Stands (names s0) (held kept s0) w → IsNamedIn name w (server_in w server) def found
    named_if_found None none at known w stands = none_in_set kept s0 closed w stands server within def name set (known w stands) none
    named_if_found (Some target) of at known w stands = one_in_set kept s0 closed w stands server within def name set (known w stands) at target of
