-- The known sets of a world once accepted definitions are loaded.
use Rattle.std.proofs.Common.{◌≡◌, ℕ, Bool, true, false, ◌&&◌, ◌⊎◌, inl, inr, List, ◌++◌, Option, Some, None, refl, sym, ap, ap₂, subst, ◌∙◌, is_some, is_none, filter, find, option_map, option_and_then, bytes_eq}
use Rattle.std.specs.List.{AllByRecursion, filter_map, list_all, list_any}
use Rattle.std.proofs.lemmas.Bool.{and_parts, and_from, both_ways, false≢true, not-true, true_from_ne_false, not_from_false}
use Rattle.repl_model.specs.Words.{SetId, SetDef, SourceSide, TargetSide, Server, World, KnownSet, same_set, server_named, source_side, target_side, known_from, known_sets, all_differ, SetKeepsLimits, UnknownTarget, IsSound, In, at_one, passes_at, any_from, some_passes, only_one, in_either, in_filter, in_filter_map, given_in, listed_in, in_map, found_in, find_image, embeds_differ, ServerGrows, same_name, name_itself, same_id, id_itself, SetGrows, known_stands, at_source_in, same_ids, known_in, known_side}
use Rattle.repl_commands.specs.declared.written.RawDefs.{RawDefs}
use Rattle.repl_commands.specs.declared.written.RawSet.{RawSet}
use Rattle.spelled_defs.specs.Spelled.{spelled_set}
use Rattle.spelled_defs.specs.Context.{names_set, is_other_set}
use Rattle.spelled_defs.specs.declared.defs.Defs.{Defs}
use Rattle.spelled_defs.specs.declared.defs.TableAt.{TableAt}
use Rattle.checked_defs.specs.Whole.{is_whole_member, is_whole_set}
use Rattle.load_laws.specs.worlds.Loads.{fresh_source, fresh_target, new_sources, new_targets, load_server, load_all}
use Rattle.load_laws.specs.worlds.laws.Loaded.{server_loads}
use Rattle.load_laws.specs.rules.Accepted.{AgreesWith, Accepted, context_in}
use Rattle.load_laws.specs.rules.StaysSound.{HoldsLoaded}
use Rattle.load_laws.specs.laws.PartsOfSound.{SetNamesDiffer}
use Rattle.load_laws.specs.rules.laws.Lists.{embeds_given, found_alone}
use Rattle.load_laws.specs.rules.laws.Items.{from_image, set_spelled}
use Rattle.load_laws.specs.laws.Items.{set_item}
use Rattle.load_laws.specs.laws.RuledWorlds.{names_differ}
use Rattle.load_laws.specs.laws.Servers.{server_rules, targets_keep_limits}
use Rattle.load_laws.specs.laws.Differ.{sets_once, target_names_differ}
use Rattle.load_laws.specs.laws.Parts.{parts_differ}

-- ---- what is found

-- the server that a name has after a load is what the one that has it becomes
pub server_before : (defs : Defs) (w : World) (name : List ℕ) (t : Server) → server_named name (load_all defs w) ≡ Some t → (s : Server) × (server_named name w ≡ Some s) × (t ≡ load_server defs s)
server_before defs w name t e =
    let s = from_image (load_server defs) (server_named name w) t (sym (find_image (load_server defs) (λ (a : Server). bytes_eq name a.name) w) ∙ e) in
    (s.0, s.1, sym s.2)

-- things of one name are one, if no two of the list have one name
pub one_of_name : {X : Type 0} (id_of : X → SetId) (xs : List X) (x y : X) → all_differ (λ a b. same_set (id_of a) (id_of b)) xs ≡ true → In x xs → In y xs → id_of x ≡ id_of y → x ≡ y
one_of_name id_of xs x y differ i j same = only_one (λ a b. same_set (id_of a) (id_of b)) xs x y differ i j (ap (same_set (id_of x)) (sym same) ∙ id_itself (id_of x)) (ap (same_set (id_of y)) same ∙ id_itself (id_of y))

-- so the one that has a name is found by it
found_by_name : {X : Type 0} (id_of : X → SetId) (xs : List X) (x : X) (id : SetId) → all_differ (λ a b. same_set (id_of a) (id_of b)) xs ≡ true → In x xs → id ≡ id_of x → find (λ a. same_set id (id_of a)) xs ≡ Some x
found_by_name id_of xs x id differ i same = found_alone (λ a. same_set id (id_of a)) (λ a b. same_set (id_of a) (id_of b)) xs x differ
    (λ a b p q. ap₂ same_set (sym (same_id id (id_of a) p)) (sym (same_id id (id_of b) q)) ∙ id_itself id) i (ap (same_set id) (sym same) ∙ id_itself id)

-- a row of a server at its source is found by its name
found_at_source : (w : World) → IsSound w → (s : Server) (side : SourceSide) (id : SetId) → In s w → In side s.source_sets → id ≡ side.def.id → source_side id s ≡ Some side
found_at_source w sound s side id i = found_by_name (λ (a : SourceSide). a.def.id) s.source_sets side id (server_rules w s sound i).source_names

-- and so is one at its target
found_at_target : (w : World) → IsSound w → (s : Server) (side : TargetSide) (id : SetId) → In s w → In side s.target_sets → id ≡ side.def.id → target_side id s ≡ Some side
found_at_target w sound s side id i = found_by_name (λ (a : TargetSide). a.def.id) s.target_sets side id (server_rules w s sound i).target_names

-- ---- names of the text

-- a name that stands in the text is that of an accepted set
named_in_text : (raw : RawDefs) (w : World) (defs : Defs) → Accepted raw w defs → (def : SetDef) → is_other_set raw.sets def ≡ false → (d : SetDef) × In d defs.sets × (d.id ≡ def.id)
named_in_text raw w defs accepted def e =
    let item = some_passes (names_set def) raw.sets (true_from_ne_false (list_any (names_set def) raw.sets) (λ none. both_ways (is_other_set raw.sets def) e (not_from_false (list_any (names_set def) raw.sets) none))) in
    spells item.0 item.1 item.2 (spelled_set tables item.0) refl (and_parts (is_some (spelled_set tables item.0)) (list_all (is_whole_member tables item.0) item.0.members) (passes_at (is_whole_set tables) raw.sets item.0 accepted.whole.sets item.1)).0
  where
    tables : List TableAt
    tables = (context_in w raw).tables

    spells : (item : RawSet) → In item raw.sets → names_set def item ≡ true → (o : Option SetDef) → spelled_set tables item ≡ o → is_some o ≡ true → (d : SetDef) × In d defs.sets × (d.id ≡ def.id)
    spells item i named None is some = absurd (false≢true some)
    spells item i named (Some d) is some =
        let both = and_parts (bytes_eq item.qual def.id.qual) (bytes_eq item.name def.id.name) named in
        (d, subst (λ (a : Defs). In d a.sets) (sym accepted.spelled) (given_in (spelled_set tables) raw.sets item d i is), ap (λ (a : SetDef). a.id) (set_spelled tables item d is) ∙ ap₂ (λ (qual name : List ℕ). record { qual = qual; name = name }) (same_name item.qual def.id.qual both.0) (same_name item.name def.id.name both.1))

-- the name of an accepted set stands in the text
pub not_in_text : (raw : RawDefs) (w : World) (defs : Defs) → Accepted raw w defs → (def d : SetDef) → is_other_set raw.sets def ≡ true → In d defs.sets → d.id ≡ def.id → ⊥
not_in_text raw w defs accepted def d e i same =
    let item = set_item raw w defs d accepted i in
    let ids = sym (ap (λ (a : SetDef). a.id) (set_spelled (context_in w raw).tables item.0 d item.2)) ∙ same in
    both_ways (list_any (names_set def) raw.sets) (not-true (list_any (names_set def) raw.sets) e) (any_from (names_set def) raw.sets item.0 item.1
    (and_from (bytes_eq item.0.qual def.id.qual) (bytes_eq item.0.name def.id.name) (ap (λ (id : SetId). bytes_eq item.0.qual id.qual) (sym ids) ∙ name_itself item.0.qual) (ap (λ (id : SetId). bytes_eq item.0.name id.name) (sym ids) ∙ name_itself item.0.name)))

-- accepted sets of one name are one
one_accepted : (raw : RawDefs) (w : World) (defs : Defs) → Accepted raw w defs → (d e : SetDef) → In d defs.sets → In e defs.sets → d.id ≡ e.id → d ≡ e
one_accepted raw w defs accepted d e = one_of_name (λ (a : SetDef). a.id) defs.sets d e (sets_once raw w defs accepted)

-- ---- rows after a load

-- a new row at a source is that of an accepted set
new_at_source : (defs : Defs) (s : Server) (side : SourceSide) → In side (new_sources defs s) → In side.def defs.sets
new_at_source defs s side i =
    let r = in_map fresh_source (filter (λ def. bytes_eq def.source s.name && is_none (source_side def.id s)) defs.sets) side i in
    subst (λ (a : SourceSide). In a.def defs.sets) (sym r.2) (in_filter (λ (def : SetDef). bytes_eq def.source s.name && is_none (source_side def.id s)) defs.sets r.0 r.1).0

-- and so is one at a target
new_at_target : (defs : Defs) (s : Server) (side : TargetSide) → In side (new_targets defs s) → In side.def defs.sets
new_at_target defs s side i =
    let r = in_map fresh_target (filter (λ def. bytes_eq def.target s.name && is_none (target_side def.id s)) defs.sets) side i in
    subst (λ (a : TargetSide). In a.def defs.sets) (sym r.2) (in_filter (λ (def : SetDef). bytes_eq def.target s.name && is_none (target_side def.id s)) defs.sets r.0 r.1).0

-- a row at a source that has the name of an accepted set is of that set
of_text_at_source : (raw : RawDefs) (w : World) (defs : Defs) → IsSound w → Accepted raw w defs → (s : Server) (side : SourceSide) (d : SetDef) → In s w → In side (s.source_sets ++ new_sources defs s) → In d defs.sets → d.id ≡ side.def.id → side.def ≡ d
of_text_at_source raw w defs sound accepted s side d i j k same = by_place (in_either s.source_sets (new_sources defs s) side j)
  where
    by_place : In side s.source_sets ⊎ In side (new_sources defs s) → side.def ≡ d
    by_place (inl old) = at_one (λ (def : SetDef). (side : SourceSide) → source_side def.id s ≡ Some side → side.def ≡ def) defs.sets d (at_one (AgreesWith defs) w s accepted.same i).sources k side (found_at_source w sound s side d.id i old same)
    by_place (inr new) = one_accepted raw w defs accepted side.def d (new_at_source defs s side new) k (sym same)

-- and so is one at a target
of_text_at_target : (raw : RawDefs) (w : World) (defs : Defs) → IsSound w → Accepted raw w defs → (s : Server) (side : TargetSide) (d : SetDef) → In s w → In side (s.target_sets ++ new_targets defs s) → In d defs.sets → d.id ≡ side.def.id → side.def ≡ d
of_text_at_target raw w defs sound accepted s side d i j k same = by_place (in_either s.target_sets (new_targets defs s) side j)
  where
    by_place : In side s.target_sets ⊎ In side (new_targets defs s) → side.def ≡ d
    by_place (inl old) = at_one (λ (def : SetDef). (side : TargetSide) → target_side def.id s ≡ Some side → side.def ≡ def) defs.sets d (at_one (AgreesWith defs) w s accepted.same i).targets k side (found_at_target w sound s side d.id i old same)
    by_place (inr new) = one_accepted raw w defs accepted side.def d (new_at_target defs s side new) k (sym same)

-- a set at its target after a load has this server's name for its target
pub target_name : (raw : RawDefs) (w : World) (defs : Defs) → IsSound w → Accepted raw w defs → (t : Server) (side : TargetSide) → In t (load_all defs w) → In side t.target_sets → side.def.target ≡ t.name
target_name raw w defs sound accepted t side i j =
    let limits = at_one (λ (t : Server). AllByRecursion (λ (side : TargetSide). (side.def.target ≡ t.name) × SetKeepsLimits (load_all defs w) side.def × UnknownTarget (load_all defs w) t side) t.target_sets) (load_all defs w) t (targets_keep_limits raw w defs sound accepted) i in
    (at_one (λ (side : TargetSide). (side.def.target ≡ t.name) × SetKeepsLimits (load_all defs w) side.def × UnknownTarget (load_all defs w) t side) t.target_sets side limits j).0

-- ---- known sets

-- a known set is one of the text, and so is its row at its source
abbrev pub OfText : Defs → KnownSet → Type 0
OfText defs l = In l.at_target.def defs.sets × (l.at_source.def ≡ l.at_target.def)

-- a known set was known before under a name that the text doesn't have
abbrev pub KnownBefore : RawDefs → World → KnownSet → Type 0
KnownBefore raw w l = (k : KnownSet) × In k (known_sets w) × SetGrows k l × (is_other_set raw.sets l.at_target.def ≡ true)

-- a known set after a load is one of the text, or was known before under a name that the text doesn't have
pub known_either : (raw : RawDefs) (w : World) (defs : Defs) → IsSound w → Accepted raw w defs → (l : KnownSet) → In l (known_sets (load_all defs w)) → OfText defs l ⊎ KnownBefore raw w l
known_either raw w defs sound accepted l i =
    let stands = known_stands (load_all defs w) l i in
    let t = in_map (load_server defs) w l.target stands.target in
    let s = server_before defs w l.at_target.def.source l.source stands.source in
    let s_in = (found_in (λ (a : Server). bytes_eq l.at_target.def.source a.name) w s.0 s.1).0 in
    let at_target = subst (λ (a : Server). In l.at_target a.target_sets) t.2 stands.at_target in
    let at_source = subst (λ (a : Server). In l.at_source a.source_sets) s.2 (at_source_in (load_all defs w) l stands) in
    by_name s.0 s_in s.1 s.2 at_source t.0 t.1 t.2 at_target (same_ids (load_all defs w) l stands) (is_other_set raw.sets l.at_target.def) refl
  where
    by_name : (s : Server) → In s w → server_named l.at_target.def.source w ≡ Some s → l.source ≡ load_server defs s → In l.at_source (s.source_sets ++ new_sources defs s) → (t : Server) → In t w → l.target ≡ load_server defs t → In l.at_target (t.target_sets ++ new_targets defs t) → l.at_target.def.id ≡ l.at_source.def.id → (b : Bool) → is_other_set raw.sets l.at_target.def ≡ b
        → OfText defs l ⊎ KnownBefore raw w l
    by_name s s_in named becomes at_source t t_in becomes_too at_target ids false e =
        let d = named_in_text raw w defs accepted l.at_target.def e in
        let one = of_text_at_target raw w defs sound accepted t l.at_target d.0 t_in at_target d.1 d.2 in
        inl (subst (λ (def : SetDef). In def defs.sets) (sym one) d.1, of_text_at_source raw w defs sound accepted s l.at_source d.0 s_in at_source d.1 (d.2 ∙ ids) ∙ sym one)
    by_name s s_in named becomes at_source t t_in becomes_too at_target ids true e = inr (
      before,
      known_in w t l.at_target before t_in old_at_target
          (ap (option_and_then (λ (a : Server). option_map (with_source a) (source_side l.at_target.def.id a))) named ∙ ap (option_map (with_source s)) (found_at_source w sound s l.at_source l.at_target.def.id s_in old_at_source ids)),
      record { source = subst (ServerGrows s) (sym becomes) (server_loads defs s); at_source = refl; target = subst (ServerGrows t) (sym becomes_too) (server_loads defs t); at_target = refl },
      e,
    )
      where
        with_source : Server → SourceSide → KnownSet
        with_source source side = record { source = source; at_source = side; target = t; at_target = l.at_target }

        before : KnownSet
        before = with_source s l.at_source

        old_at_target : In l.at_target t.target_sets
        old_at_target = by_place (in_either t.target_sets (new_targets defs t) l.at_target at_target)
          where
            by_place : In l.at_target t.target_sets ⊎ In l.at_target (new_targets defs t) → In l.at_target t.target_sets
            by_place (inl old) = old
            by_place (inr new) = absurd (not_in_text raw w defs accepted l.at_target.def l.at_target.def e (new_at_target defs t l.at_target new) refl)

        old_at_source : In l.at_source s.source_sets
        old_at_source = by_place (in_either s.source_sets (new_sources defs s) l.at_source at_source)
          where
            by_place : In l.at_source s.source_sets ⊎ In l.at_source (new_sources defs s) → In l.at_source s.source_sets
            by_place (inl old) = old
            by_place (inr new) = absurd (not_in_text raw w defs accepted l.at_target.def l.at_source.def e (new_at_source defs s l.at_source new) (sym ids))

-- a known set's target is the server that its definition names
pub named_target : (raw : RawDefs) (w : World) (defs : Defs) → IsSound w → Accepted raw w defs → (l : KnownSet) → In l (known_sets (load_all defs w)) → l.at_target.def.target ≡ l.target.name
named_target raw w defs sound accepted l i = let stands = known_stands (load_all defs w) l i in target_name raw w defs sound accepted l.target l.at_target stands.target stands.at_target

-- and so is its source
pub named_source : (w : World) (k : KnownSet) → In k (known_sets w) → k.at_target.def.source ≡ k.source.name
named_source w k i = same_name k.at_target.def.source k.source.name (found_in (λ (a : Server). bytes_eq k.at_target.def.source a.name) w k.source (known_stands w k i).source).1

-- two known sets have one name
abbrev pub same_known : KnownSet → KnownSet → Bool
same_known a b = same_set a.at_target.def.id b.at_target.def.id

-- known sets of one name have one definition at their targets
one_definition : (raw : RawDefs) (w : World) (defs : Defs) → IsSound w → Accepted raw w defs → (l m : KnownSet) → In l (known_sets (load_all defs w)) → In m (known_sets (load_all defs w)) → l.at_target.def.id ≡ m.at_target.def.id → l.at_target.def ≡ m.at_target.def
one_definition raw w defs sound accepted l m i j same = by_origin (known_either raw w defs sound accepted l i) (known_either raw w defs sound accepted m j)
  where
    by_origin : OfText defs l ⊎ KnownBefore raw w l
        → OfText defs m ⊎ KnownBefore raw w m
        → l.at_target.def ≡ m.at_target.def
    by_origin (inl a) (inl b) = one_accepted raw w defs accepted l.at_target.def m.at_target.def a.0 b.0 same
    by_origin (inl a) (inr b) = absurd (not_in_text raw w defs accepted m.at_target.def l.at_target.def b.3 a.0 same)
    by_origin (inr a) (inl b) = absurd (not_in_text raw w defs accepted l.at_target.def m.at_target.def a.3 b.0 (sym same))
    by_origin (inr a) (inr b) =
        let l_id : l.at_target.def.id ≡ a.0.at_target.def.id = ap (λ (side : TargetSide). side.def.id) a.2.at_target in
        let m_id : m.at_target.def.id ≡ b.0.at_target.def.id = ap (λ (side : TargetSide). side.def.id) b.2.at_target in
        let ids : a.0.at_target.def.id ≡ b.0.at_target.def.id = sym l_id ∙ same ∙ m_id in
        let one = one_of_name (λ (k : KnownSet). k.at_target.def.id) (known_sets w) a.0 b.0 sound.definitions.set_names a.1 b.1 ids in
        ap (λ (side : TargetSide). side.def) a.2.at_target ∙ ap (λ (k : KnownSet). k.at_target.def) one ∙ sym (ap (λ (side : TargetSide). side.def) b.2.at_target)

-- no two sets of the world after have one name
pub set_names_differ : HoldsLoaded SetNamesDiffer
unfolding known_sets
set_names_differ raw w defs sound accepted = parts_differ (λ a b. bytes_eq a.name b.name) same_known known_at (load_all defs w) (names_differ raw w defs sound accepted) each apart
  where
    known_at : Server → List KnownSet
    known_at t = filter_map (known_from (load_all defs w) t) t.target_sets

    each : (t : Server) → In t (load_all defs w) → all_differ same_known (known_at t) ≡ true
    each t i = embeds_differ (λ (k : KnownSet) (side : TargetSide). known_from (load_all defs w) t side ≡ Some k) same_known (λ (a b : TargetSide). same_set a.def.id b.def.id)
        (λ k m a b p q e. ap₂ (λ (x y : TargetSide). same_set x.def.id y.def.id) (sym (known_side (load_all defs w) t a k p)) (sym (known_side (load_all defs w) t b m q)) ∙ e)
        (known_at t) t.target_sets (embeds_given (known_from (load_all defs w) t) t.target_sets)
        (at_one (λ (t : Server). all_differ (λ a b. same_set a.def.id b.def.id) t.target_sets ≡ true) (load_all defs w) t (target_names_differ raw w defs sound accepted) i)

    stands_there : (t : Server) (k : KnownSet) → In t (load_all defs w) → In k (known_at t) → k.at_target.def.target ≡ t.name
    stands_there t k i j =
        let of = in_filter_map (known_from (load_all defs w) t) t.target_sets k j in
        ap (λ (side : TargetSide). side.def.target) (known_side (load_all defs w) t of.0 k of.2) ∙ target_name raw w defs sound accepted t of.0 i of.1

    apart : (t u : Server) (k m : KnownSet) → In t (load_all defs w) → In u (load_all defs w) → In k (known_at t) → In m (known_at u) → same_known k m ≡ true → bytes_eq t.name u.name ≡ true
    apart t u k m i j a b e =
        let one = one_definition raw w defs sound accepted k m (listed_in known_at (load_all defs w) t k i a) (listed_in known_at (load_all defs w) u m j b) (same_id k.at_target.def.id m.at_target.def.id e) in
        let names : t.name ≡ u.name = sym (stands_there t k i a) ∙ ap (λ (def : SetDef). def.target) one ∙ stands_there u m j b in
        ap (bytes_eq t.name) (sym names) ∙ name_itself t.name
