-- The links of sets that stand beside a text that was accepted.
use Rattle.std.proofs.Common.{◌≡◌, ℕ, false, ◌⊎◌, inl, inr, List, ◌++◌, map, Option, Some, refl, sym, ap, ap₂, subst, ◌∙◌, is_some, filter}
use Rattle.std.specs.FinMap.{IsAntisymmetric}
use Rattle.std.specs.List.{enumerate_from, flat_map}
use Rattle.std.specs.Option.{option_map_or}
use Rattle.world_store.specs.Words.{name_cmp, set_cmp, target_set_rows, name_cmp_exact, both_tie}
use Rattle.repl_model.specs.Words.{SetId, Member, SetDef, TargetSet, SourceSide, TargetSide, Server, World, KnownSet, source_side, known_sets, IsSound, In, in_filter_map, in_map, kept_by, listed_in, image_in, in_first, in_second, StandsIn, known_stands, entry_has_row, in_numbered, numbered_in}
use Rattle.repl_commands.specs.declared.written.RawDefs.{RawDefs}
use Rattle.repl_commands.specs.declared.written.RawMember.{RawMember}
use Rattle.repl_commands.specs.declared.written.RawSet.{RawSet}
use Rattle.spelled_defs.specs.Spelled.{columns_at, spelled_member_at, spelled_set}
use Rattle.spelled_defs.specs.Context.{is_other_set, link_of_item, link_of_member, links_of_item, links_of_set, context_of}
use Rattle.spelled_defs.specs.declared.context.Link.{Link}
use Rattle.spelled_defs.specs.declared.defs.Defs.{Defs}
use Rattle.spelled_defs.specs.declared.defs.TableAt.{TableAt}
use Rattle.load_laws.specs.known.Known.{stands_at_source, sets_at, known_defs}
use Rattle.load_laws.specs.worlds.Loads.{load_all}
use Rattle.load_laws.specs.rules.Accepted.{Accepted, context_in}
use Rattle.load_laws.specs.rules.laws.Items.{set_spelled, member_spelled, replica_kind}
use Rattle.load_laws.specs.laws.Items.{set_item}
use Rattle.load_laws.specs.laws.Servers.{server_rules}
use Rattle.load_laws.specs.laws.KnownSets.{one_of_name, OfText, KnownBefore, known_either}

-- ---- known definitions

-- names of sets of which neither is before the other are one
set_cmp_exact : IsAntisymmetric set_cmp
set_cmp_exact a b e =
    let both = both_tie (name_cmp a.qual b.qual) (name_cmp a.name b.name) e in
    ap₂ (λ (qual name : List ℕ). record { qual = qual; name = name }) (name_cmp_exact a.qual b.qual both.0) (name_cmp_exact a.name b.name both.1)

-- the definition of each known set is known
pub known_def : (w : World) → IsSound w → (k : KnownSet) → In k (known_sets w) → In k.at_target.def (known_defs w).sets
known_def w sound k i = listed_in (sets_at w) w k.target k.at_target.def stands.target (kept_by (stands_at_source w) (map def_of (target_set_rows k.target)) k.at_target.def
    (subst (λ (def : SetDef). In def (map def_of (target_set_rows k.target))) r.3 (image_in def_of (target_set_rows k.target) r.0 r.1))
    (ap (λ (o : Option Server). option_map_or (λ source. is_some (source_side k.at_target.def.id source)) o false) stands.source ∙ ap (λ (o : Option SourceSide). is_some o) stands.at_source))
  where
    stands : StandsIn w k
    stands = known_stands w k i

    def_of : SetId × TargetSet → SetDef
    def_of r = r.1.def

    row : ℕ × TargetSide → SetId × TargetSet
    row s = (s.1.def.id, record { number = s.0; def = s.1.def })

    rows : List (SetId × TargetSet)
    rows = map row (enumerate_from 0 k.target.target_sets)

    alone : (e : SetId × TargetSet) → In e rows → e.0 ≡ k.at_target.def.id → e.1.def ≡ k.at_target.def
    alone e j same =
        let of = in_map row (enumerate_from 0 k.target.target_sets) e j in
        ap def_of of.2
        ∙ ap (λ (side : TargetSide). side.def) (one_of_name (λ (side : TargetSide). side.def.id) k.target.target_sets of.0.1 k.at_target (server_rules w k.target sound stands.target).target_names
        (numbered_in 0 k.target.target_sets of.0 of.1) stands.at_target (sym (ap (λ (q : SetId × TargetSet). q.0) of.2) ∙ same))

    n : (m : ℕ) × In {X = ℕ × TargetSide} (m, k.at_target) (enumerate_from 0 k.target.target_sets)
    n = in_numbered 0 k.target.target_sets k.at_target stands.at_target

    r : (q : SetId × TargetSet) × In q (target_set_rows k.target) × (q.0 ≡ k.at_target.def.id) × (q.1.def ≡ k.at_target.def)
    r = entry_has_row set_cmp set_cmp_exact k.at_target.def.id (λ (v : TargetSet). v.def ≡ k.at_target.def) rows alone (row (n.0, k.at_target)) (image_in row (enumerate_from 0 k.target.target_sets) (n.0, k.at_target) n.1) refl

-- ---- members

-- a member of a set of the text has the link of an item of the set's
pub link_spelled : (tables : List TableAt) (item : RawSet) (def : SetDef) → spelled_set tables item ≡ Some def → (a : Member) → In a def.members → (m : RawMember) × In m item.members × (link_of_item item m ≡ link_of_member def a)
link_spelled tables item def e a i =
    let is = set_spelled tables item def e in
    let m = in_filter_map (spelled_member_at tables item.source) item.members a (subst (λ (d : SetDef). In a d.members) is i) in
    let of = member_spelled (columns_at tables item.source m.0.source) m.0 a m.2 in
    (m.0, m.1, sym (ap (λ (d : SetDef). link_of_member d a) is ∙ (λ j. record { source_server = item.source; source = (of.1 j).source; target_server = item.target; target = (of.1 j).target; is_replica = replica_kind m.0 a.kind of.0 j })))

-- so its link is one of the item's
pub spelled_link : (tables : List TableAt) (item : RawSet) (def : SetDef) → spelled_set tables item ≡ Some def → (a : Member) → In a def.members → In (link_of_member def a) (links_of_item item)
spelled_link tables item def e a i = let m = link_spelled tables item def e a i in subst (λ (link : Link). In link (links_of_item item)) m.2 (image_in (link_of_item item) item.members m.0 m.1)

-- ---- links

-- the links of the items
abbrev pub item_links : RawDefs → List Link
item_links raw = flat_map links_of_item raw.sets

-- the links of the known sets of other names
abbrev pub known_links : RawDefs → World → List Link
known_links raw w = flat_map links_of_set (filter (is_other_set raw.sets) (known_defs w).sets)

-- the links that are asked together are both
pub links_are : (w : World) (raw : RawDefs) → (context_in w raw).links ≡ item_links raw ++ known_links raw w
unfolding context_of
links_are w raw = refl

-- the link of a member of a set of the text is one of its items'
pub link_of_text : (raw : RawDefs) (w : World) (defs : Defs) → Accepted raw w defs → (def : SetDef) → In def defs.sets → (a : Member) → In a def.members → In (link_of_member def a) (item_links raw)
link_of_text raw w defs accepted def i a j = let item = set_item raw w defs def accepted i in listed_in links_of_item raw.sets item.0 (link_of_member def a) item.1 (spelled_link (context_in w raw).tables item.0 def item.2 a j)

-- the link of a member of a set that was known before is one of the known sets'
pub link_known : (raw : RawDefs) (w : World) → IsSound w → (l : KnownSet) → KnownBefore raw w l → (a : Member) → In a l.at_target.def.members → In (link_of_member l.at_target.def a) (known_links raw w)
link_known raw w sound l before a i = listed_in links_of_set (filter (is_other_set raw.sets) (known_defs w).sets) l.at_target.def (link_of_member l.at_target.def a)
    (kept_by (is_other_set raw.sets) (known_defs w).sets l.at_target.def (subst (λ (side : TargetSide). In side.def (known_defs w).sets) (sym before.2.at_target) (known_def w sound before.0 before.1)) before.3)
    (image_in (link_of_member l.at_target.def) l.at_target.def.members a i)

-- the link of a member of each set that is known after a load stands beside the text
pub link_in : (raw : RawDefs) (w : World) (defs : Defs) → IsSound w → Accepted raw w defs → (l : KnownSet) → In l (known_sets (load_all defs w)) → (a : Member) → In a l.at_target.def.members → In (link_of_member l.at_target.def a) (context_in w raw).links
link_in raw w defs sound accepted l i a j = subst (In (link_of_member l.at_target.def a)) (sym (links_are w raw)) (by_origin (known_either raw w defs sound accepted l i))
  where
    by_origin : OfText defs l ⊎ KnownBefore raw w l → In (link_of_member l.at_target.def a) (item_links raw ++ known_links raw w)
    by_origin (inl text) = in_first (item_links raw) (known_links raw w) (link_of_member l.at_target.def a) (link_of_text raw w defs accepted l.at_target.def text.0 a j)
    by_origin (inr before) = in_second (item_links raw) (known_links raw w) (link_of_member l.at_target.def a) (link_known raw w sound l before a j)
