-- No target of a replica set is the source of another once accepted definitions are loaded.
use Rattle.std.proofs.Common.{◌≡◌, ℕ, Bool, true, false, not, ◌&&◌, ◌⊎◌, inl, inr, List, map, Some, sym, ap, ap₂, subst, ◌∙◌, ◌==◌, unwrap_or, bytes_eq}
use Rattle.std.specs.List.{list_all, list_any}
use Rattle.std.proofs.lemmas.Bool.{and_parts, and_from, both_ways, not-true, not_from_false, false_from_ne_true, or_parts}
use Rattle.repl_model.specs.Words.{Member, SetDef, TargetSide, World, KnownSet, known_sets, is_replica, is_replica_set, KnownSetKeepsRules, MemberIsSound, ReplicaMemberIsSound, same_place, sources_of, targets_of, replica_sets, IsSound, In, at_one, passes_at, all_pass_from, any_from, some_passes, in_filter, kept_by, listed_in, in_flat_map, in_map, image_in, same_name, name_itself, name_stays, SetGrows, not_not}
use Rattle.repl_commands.specs.declared.written.RawDefs.{RawDefs}
use Rattle.repl_commands.specs.declared.written.RawMember.{RawMember}
use Rattle.repl_commands.specs.declared.written.RawSet.{RawSet}
use Rattle.spelled_defs.specs.Spelled.{spelled_set}
use Rattle.spelled_defs.specs.Context.{is_replica_item, link_of_item, link_of_member}
use Rattle.spelled_defs.specs.declared.context.Link.{Link}
use Rattle.spelled_defs.specs.declared.defs.Defs.{Defs}
use Rattle.checked_defs.specs.Rules.{copies_from, copies_to, replicas_stand_alone, makes_chain}
use Rattle.checked_defs.specs.Broken.{set_breaks}
use Rattle.checked_defs.specs.declared.rule.Rule.TheVariants.{Replicas}
use Rattle.load_laws.specs.worlds.Loads.{load_all}
use Rattle.load_laws.specs.rules.Accepted.{Accepted, context_in}
use Rattle.load_laws.specs.rules.StaysSound.{HoldsLoaded}
use Rattle.load_laws.specs.laws.PartsOfSound.{MakeNoChains}
use Rattle.load_laws.specs.rules.laws.Kept.{set_kept}
use Rattle.load_laws.specs.rules.laws.Lists.{or_else}
use Rattle.load_laws.specs.laws.Items.{set_item}
use Rattle.load_laws.specs.laws.KnownSets.{OfText, KnownBefore, known_either, named_target, named_source}
use Rattle.load_laws.specs.laws.Links.{link_spelled, link_in}
use Rattle.load_laws.specs.laws.TextMembers.{item_rules}
use Rattle.load_laws.specs.laws.TargetsDiffer.{targets_at, targets_stay}

-- ---- replica sets

-- the item of a replica set of the text has replicas only, and no limits of its steps
pub replicas_item : (raw : RawDefs) (w : World) (defs : Defs) → Accepted raw w defs → (def : SetDef) → In def defs.sets → is_replica_set def ≡ true → (item : RawSet) × (spelled_set (context_in w raw).tables item ≡ Some def) × ((list_all is_replica_item item.members && unwrap_or item.commit_count 0 == 0 && unwrap_or item.max_minutes 0 == 0) ≡ true)
unfolding set_breaks
replicas_item raw w defs accepted def i some =
    let item = set_item raw w defs def accepted i in
    let one = some_passes (λ (b : Member). is_replica b.kind) def.members some in
    let its = link_spelled (context_in w raw).tables item.0 def item.2 one.0 one.1 in
    let kept = not_not (replicas_stand_alone item.0) (set_kept raw (context_in w raw) accepted.kept Replicas item.0 item.1) in
    (item.0, item.2, or_else (list_any is_replica_item item.0.members) _ kept (any_from is_replica_item item.0.members its.0 its.1 (ap (λ (link : Link). link.is_replica) its.2 ∙ one.2)))

-- the members of a set of the text are all replicas, if it is a replica set
pub replicas_of_text : (raw : RawDefs) (w : World) (defs : Defs) → Accepted raw w defs → (def : SetDef) → In def defs.sets → is_replica_set def ≡ true → (a : Member) → In a def.members → is_replica a.kind ≡ true
replicas_of_text raw w defs accepted def i some a j =
    let item = replicas_item raw w defs accepted def i some in
    let m = link_spelled (context_in w raw).tables item.0 def item.1 a j in
    sym (ap (λ (link : Link). link.is_replica) m.2) ∙ passes_at is_replica_item item.0.members m.0 (and_parts _ _ (and_parts _ _ item.2).0).0 m.1

-- and so are those of one that was known
replicas_known : (w : World) → IsSound w → (k : KnownSet) → In k (known_sets w) → is_replica_set k.at_target.def ≡ true → (a : Member) → In a k.at_target.def.members → is_replica a.kind ≡ true
replicas_known w sound k i some a j = elim (at_one KnownSetKeepsRules (known_sets w) k sound.definitions.sets i).members [
  | inl m ↦
      let one = some_passes (λ (b : Member). is_replica b.kind) k.at_target.def.members some in
      absurd (both_ways (is_replica one.0.kind) (not-true (is_replica one.0.kind) (at_one (MemberIsSound k) k.at_target.def.members one.0 m.0 one.1).0) one.2)
  | inr m ↦ (at_one (ReplicaMemberIsSound k) k.at_target.def.members a m.0 j).0
]

-- the members of a replica set that is known after a load are all replicas
all_replicas : (raw : RawDefs) (w : World) (defs : Defs) → IsSound w → Accepted raw w defs → (l : KnownSet) → In l (known_sets (load_all defs w)) → is_replica_set l.at_target.def ≡ true → (a : Member) → In a l.at_target.def.members → is_replica a.kind ≡ true
all_replicas raw w defs sound accepted l i some a j = by_origin (known_either raw w defs sound accepted l i)
  where
    by_origin : OfText defs l ⊎ KnownBefore raw w l → is_replica a.kind ≡ true
    by_origin (inl text) = replicas_of_text raw w defs accepted l.at_target.def text.0 some a j
    by_origin (inr before) = replicas_known w sound before.0 before.1 (ap (λ (side : TargetSide). is_replica_set side.def) (sym before.2.at_target) ∙ some) a (subst (λ (side : TargetSide). In a side.def.members) before.2.at_target j)

-- ---- chains

-- no replica's link comes from a link's target, and none goes to its source
abbrev StandsApart : List Link → Link → Type 0
StandsApart links link = (list_any (λ other. other.is_replica && copies_from link.target_server link.target other) links ≡ false) × (list_any (λ other. other.is_replica && copies_to link.source_server link.source other) links ≡ false)

-- the link of a replica of the text stands apart
item_apart : (raw : RawDefs) (w : World) (defs : Defs) → Accepted raw w defs → (item : RawSet) (m : RawMember) → In item raw.sets → In m item.members → is_replica_item m ≡ true → StandsApart (context_in w raw).links (link_of_item item m)
item_apart raw w defs accepted item m i j replica =
    or_parts _ _ (not-true (makes_chain (context_in w raw) item m) (and_parts _ _ (or_else (is_replica_item m) _ (item_rules raw (context_in w raw) accepted.kept item m i j).apart replica)).1)

-- and so does that of a replica of a set that the text spells
text_apart : (raw : RawDefs) (w : World) (defs : Defs) → Accepted raw w defs → (def : SetDef) → In def defs.sets → (a : Member) → In a def.members → is_replica a.kind ≡ true → StandsApart (context_in w raw).links (link_of_member def a)
text_apart raw w defs accepted def i a j replica =
    let item = set_item raw w defs def accepted i in
    let m = link_spelled (context_in w raw).tables item.0 def item.2 a j in
    subst (StandsApart (context_in w raw).links) m.2 (item_apart raw w defs accepted item.0 m.0 item.1 m.1 (ap (λ (link : Link). link.is_replica) m.2 ∙ replica))

-- the sources of the members of a set
abbrev sources_at : KnownSet → List (List ℕ × List ℕ)
sources_at k = map (λ member. (k.source.name, member.source)) k.at_target.def.members

-- they stay
sources_stay : (k l : KnownSet) → SetGrows k l → sources_at l ≡ sources_at k
sources_stay k l g = ap₂ (λ (name : List ℕ) (side : TargetSide). map (λ (a : Member). (name, a.source)) side.def.members) (name_stays k.source l.source g.source) g.at_target

-- no target of a replica set is the source of another
pub make_no_chains : HoldsLoaded MakeNoChains
make_no_chains raw w defs sound accepted = all_pass_from (λ target. not (list_any (same_place target) (sources_of replicas))) (targets_of replicas) (λ x i.
    not_from_false (list_any (same_place x) (sources_of replicas)) (false_from_ne_true (list_any (same_place x) (sources_of replicas)) (λ some.
    let y = some_passes (same_place x) (sources_of replicas) some in
    let l = in_flat_map targets_at replicas x i in
    let m = in_flat_map sources_at replicas y.0 y.1 in
    let a = in_map (λ (a : Member). (l.0.target.name, a.target)) l.0.at_target.def.members x l.2 in
    let b = in_map (λ (b : Member). (m.0.source.name, b.source)) m.0.at_target.def.members y.0 m.2 in
    apart l.0 m.0 a.0 b.0 l.1 m.1 a.1 b.1 (ap₂ same_place (sym a.2) (sym b.2) ∙ y.2))))
  where
    is_of_replicas : KnownSet → Bool
    is_of_replicas k = is_replica_set k.at_target.def

    replicas : List KnownSet
    replicas = replica_sets (known_sets (load_all defs w))

    links : List Link
    links = (context_in w raw).links

    apart : (l m : KnownSet) (a b : Member) → In l replicas → In m replicas → In a l.at_target.def.members → In b m.at_target.def.members → same_place (l.target.name, a.target) (m.source.name, b.source) ≡ true → ⊥
    apart l m a b i j k n e = by_origin (known_either raw w defs sound accepted l l_in.0) (known_either raw w defs sound accepted m m_in.0)
      where
        l_in : In l (known_sets (load_all defs w)) × (is_of_replicas l ≡ true)
        l_in = in_filter is_of_replicas (known_sets (load_all defs w)) l i

        m_in : In m (known_sets (load_all defs w)) × (is_of_replicas m ≡ true)
        m_in = in_filter is_of_replicas (known_sets (load_all defs w)) m j

        a_is : is_replica a.kind ≡ true
        a_is = all_replicas raw w defs sound accepted l l_in.0 l_in.1 a k

        b_is : is_replica b.kind ≡ true
        b_is = all_replicas raw w defs sound accepted m m_in.0 m_in.1 b n

        both : (bytes_eq l.target.name m.source.name ≡ true) × (bytes_eq a.target b.source ≡ true)
        both = and_parts (bytes_eq l.target.name m.source.name) (bytes_eq a.target b.source) e

        servers : l.at_target.def.target ≡ m.at_target.def.source
        servers = named_target raw w defs sound accepted l l_in.0 ∙ same_name l.target.name m.source.name both.0 ∙ sym (named_source (load_all defs w) m m_in.0)

        names : a.target ≡ b.source
        names = same_name a.target b.source both.1

        was : (k l : KnownSet) → In k (known_sets w) → SetGrows k l → is_of_replicas l ≡ true → In k (replica_sets (known_sets w))
        was k l i g of = kept_by is_of_replicas (known_sets w) k i (ap (λ (side : TargetSide). is_replica_set side.def) (sym g.at_target) ∙ of)

        by_origin : OfText defs l ⊎ KnownBefore raw w l → OfText defs m ⊎ KnownBefore raw w m → ⊥
        by_origin (inl text) other = both_ways (list_any (λ link. link.is_replica && copies_from l.at_target.def.target a.target link) links)
            (text_apart raw w defs accepted l.at_target.def text.0 a k a_is).0
            (any_from (λ link. link.is_replica && copies_from l.at_target.def.target a.target link) links (link_of_member m.at_target.def b) (link_in raw w defs sound accepted m m_in.0 b n)
            (and_from (is_replica b.kind) (copies_from l.at_target.def.target a.target (link_of_member m.at_target.def b)) b_is
            (and_from (bytes_eq l.at_target.def.target m.at_target.def.source) (bytes_eq a.target b.source) (ap (bytes_eq l.at_target.def.target) (sym servers) ∙ name_itself l.at_target.def.target) both.1)))
        by_origin (inr before) (inl text) = both_ways (list_any (λ link. link.is_replica && copies_to m.at_target.def.source b.source link) links)
            (text_apart raw w defs accepted m.at_target.def text.0 b n b_is).1
            (any_from (λ link. link.is_replica && copies_to m.at_target.def.source b.source link) links (link_of_member l.at_target.def a) (link_in raw w defs sound accepted l l_in.0 a k)
            (and_from (is_replica a.kind) (copies_to m.at_target.def.source b.source (link_of_member l.at_target.def a)) a_is
            (and_from (bytes_eq m.at_target.def.source l.at_target.def.target) (bytes_eq b.source a.target) (ap (bytes_eq m.at_target.def.source) servers ∙ name_itself m.at_target.def.source) (ap (bytes_eq b.source) names ∙ name_itself b.source))))
        by_origin (inr before) (inr other) = both_ways (list_any (same_place (l.target.name, a.target)) (sources_of (replica_sets (known_sets w))))
            (not-true (list_any (same_place (l.target.name, a.target)) (sources_of (replica_sets (known_sets w))))
            (passes_at (λ target. not (list_any (same_place target) (sources_of (replica_sets (known_sets w))))) (targets_of (replica_sets (known_sets w))) (l.target.name, a.target) sound.definitions.chains
            (listed_in targets_at (replica_sets (known_sets w)) before.0 (l.target.name, a.target) (was before.0 l before.1 before.2 l_in.1)
            (subst (In (l.target.name, a.target)) (targets_stay before.0 l before.2) (image_in (λ (a : Member). (l.target.name, a.target)) l.at_target.def.members a k)))))
            (any_from (same_place (l.target.name, a.target)) (sources_of (replica_sets (known_sets w))) (m.source.name, b.source)
            (listed_in sources_at (replica_sets (known_sets w)) other.0 (m.source.name, b.source) (was other.0 m other.1 other.2 m_in.1)
            (subst (In (m.source.name, b.source)) (sources_stay other.0 m other.2) (image_in (λ (b : Member). (m.source.name, b.source)) m.at_target.def.members b n)))
            e)
