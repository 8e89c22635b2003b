-- The targets of the members of known sets once accepted definitions are loaded.
use Rattle.std.proofs.Common.{◌≡◌, ℕ, ◌+◌, ◌≤◌, Bool, true, cond, ◌⊎◌, inl, inr, List, [], ◌∷◌, ◌++◌, map, Some, refl, sym, ap, ap₂, subst, ◌∙◌, count_by, filter_map, bytes_eq}
use Rattle.std.proofs.lemmas.Bool.{and_parts, and_from, leb-true}
use Rattle.std.proofs.lemmas.Option.{same_Some}
use Rattle.repl_model.specs.Words.{Member, SetDef, TargetSide, World, KnownSet, same_set, known_sets, all_differ, same_place, IsSound, In, in_map, image_in, embeds_differ, differ_images, same_name, name_itself, id_itself, name_stays, SetGrows}
use Rattle.repl_commands.specs.declared.written.RawDefs.{RawDefs}
use Rattle.repl_commands.specs.declared.written.RawMember.{RawMember}
use Rattle.repl_commands.specs.declared.written.RawSet.{RawSet}
use Rattle.spelled_defs.specs.Spelled.{columns_at, spelled_member_at, spelled_set}
use Rattle.spelled_defs.specs.Context.{link_of_item, link_of_member, links_of_item}
use Rattle.spelled_defs.specs.declared.context.Link.{Link}
use Rattle.spelled_defs.specs.declared.defs.Defs.{Defs}
use Rattle.spelled_defs.specs.declared.defs.TableAt.{TableAt}
use Rattle.checked_defs.specs.Rules.{copies_to}
use Rattle.load_laws.specs.worlds.Loads.{load_all}
use Rattle.load_laws.specs.rules.Accepted.{Accepted, context_in}
use Rattle.load_laws.specs.rules.StaysSound.{HoldsLoaded}
use Rattle.load_laws.specs.laws.PartsOfSound.{TargetsDiffer}
use Rattle.load_laws.specs.rules.laws.Lists.{embeds_given, counted, counted_differ}
use Rattle.load_laws.specs.rules.laws.Items.{set_spelled, member_spelled}
use Rattle.load_laws.specs.laws.Items.{set_item}
use Rattle.load_laws.specs.laws.Parts.{parts_differ, part_differs, alike_in_one, once_apart, once_first, once_in_part, passing_in_one}
use Rattle.load_laws.specs.laws.KnownSets.{OfText, KnownBefore, known_either, same_known, set_names_differ, named_target}
use Rattle.load_laws.specs.laws.TextMembers.{item_rules}
use Rattle.load_laws.specs.laws.Links.{link_spelled, spelled_link, item_links, known_links, links_are, link_of_text, link_known}

-- as many images pass as elements whose images do
counted_image : {X Y : Type 0} (f : X → Y) (p : Y → Bool) (xs : List X) → count_by p (map f xs) ≡ count_by (λ x. p (f x)) xs
counted_image f p [] = refl
counted_image f p (x ∷ xs) = counted p (f x) (map f xs) ∙ ap (λ n. cond (p (f x)) 1 0 + n) (counted_image f p xs) ∙ sym (counted (λ y. p (f y)) x xs)

-- the targets of the members of a set
abbrev pub targets_at : KnownSet → List (List ℕ × List ℕ)
targets_at k = map (λ member. (k.target.name, member.target)) k.at_target.def.members

-- one link goes to the target of a member of a text
target_once : (raw : RawDefs) (w : World) (defs : Defs) → Accepted raw w defs → (item : RawSet) (m : RawMember) → In item raw.sets → In m item.members → count_by (copies_to item.target m.target) (item_links raw ++ known_links raw w) ≤ 1
target_once raw w defs accepted item m i j =
    subst (λ (links : List Link). count_by (copies_to item.target m.target) links ≤ 1) (links_are w raw)
    (leb-true (count_by (copies_to item.target m.target) (context_in w raw).links) 1 (and_parts _ _ (and_parts _ _ (item_rules raw (context_in w raw) accepted.kept item m i j).once).0).1)

-- and so it does to that of a member of a set of the text
of_text_once : (raw : RawDefs) (w : World) (defs : Defs) → Accepted raw w defs → (def : SetDef) → In def defs.sets → (a : Member) → In a def.members → count_by (copies_to def.target a.target) (item_links raw ++ known_links raw w) ≤ 1
of_text_once raw w defs accepted def i a j =
    let item = set_item raw w defs def accepted i in
    let m = link_spelled (context_in w raw).tables item.0 def item.2 a j in
    subst (λ (link : Link). count_by (copies_to link.target_server link.target) (item_links raw ++ known_links raw w) ≤ 1) m.2 (target_once raw w defs accepted item.0 m.0 item.1 m.1)

-- a member's link goes to a target that is its own
goes_to : (d e : SetDef) (a b : Member) → d.target ≡ e.target → a.target ≡ b.target → copies_to d.target a.target (link_of_member e b) ≡ true
goes_to d e a b servers names = and_from (bytes_eq d.target e.target) (bytes_eq a.target b.target) (ap (bytes_eq d.target) (sym servers) ∙ name_itself d.target) (ap (bytes_eq a.target) (sym names) ∙ name_itself a.target)

-- a member of a set of the text and one of a set that was known have two targets
text_alone : (raw : RawDefs) (w : World) (defs : Defs) → IsSound w → Accepted raw w defs → (l m : KnownSet) (a b : Member) → OfText defs l → KnownBefore raw w m → In a l.at_target.def.members → In b m.at_target.def.members → l.at_target.def.target ≡ m.at_target.def.target → a.target ≡ b.target → ⊥
text_alone raw w defs sound accepted l m a b text before i j servers names = once_apart (copies_to l.at_target.def.target a.target) (item_links raw) (known_links raw w) (link_of_member l.at_target.def a) (link_of_member m.at_target.def b)
    (of_text_once raw w defs accepted l.at_target.def text.0 a i)
    (link_of_text raw w defs accepted l.at_target.def text.0 a i) (link_known raw w sound m before b j)
    (goes_to l.at_target.def l.at_target.def a a refl refl) (goes_to l.at_target.def m.at_target.def a b servers names)

-- the targets of the members of a set stay
pub targets_stay : (k l : KnownSet) → SetGrows k l → targets_at l ≡ targets_at k
targets_stay k l g = ap₂ (λ (name : List ℕ) (side : TargetSide). map (λ (a : Member). (name, a.target)) side.def.members) (name_stays k.target l.target g.target) g.at_target

-- no two members of known sets have one target
pub targets_differ : HoldsLoaded TargetsDiffer
targets_differ raw w defs sound accepted = parts_differ same_known same_place targets_at (known_sets (load_all defs w)) (set_names_differ raw w defs sound accepted)
    (λ l i. each l (known_either raw w defs sound accepted l i)) apart
  where
    tables : List TableAt
    tables = (context_in w raw).tables

    in_item : (item : RawSet) → In item raw.sets → all_differ (λ a b. copies_to item.target a.target (link_of_item item b)) item.members ≡ true
    in_item item i = counted_differ (λ a b. copies_to item.target a.target (link_of_item item b)) (λ m. and_from (bytes_eq item.target item.target) (bytes_eq m.target m.target) (name_itself item.target) (name_itself m.target)) item.members (λ m j.
        subst (λ n. n ≤ 1) (counted_image (link_of_item item) (copies_to item.target m.target) item.members)
        (once_in_part (copies_to item.target m.target) links_of_item raw.sets item (once_first (copies_to item.target m.target) (item_links raw) (known_links raw w) (target_once raw w defs accepted item m i j)) i))

    each : (l : KnownSet) → OfText defs l ⊎ KnownBefore raw w l → all_differ same_place (targets_at l) ≡ true
    each l (inl text) =
        let item = set_item raw w defs l.at_target.def accepted text.0 in
        differ_images (λ (a : Member). (l.target.name, a.target)) same_place l.at_target.def.members
        ∙ ap (λ (def : SetDef). all_differ (λ (a b : Member). same_place (l.target.name, a.target) (l.target.name, b.target)) def.members) (set_spelled tables item.0 l.at_target.def item.2)
        ∙ embeds_differ (λ (a : Member) (m : RawMember). spelled_member_at tables item.0.source m ≡ Some a) (λ (a b : Member). same_place (l.target.name, a.target) (l.target.name, b.target)) (λ (m n : RawMember). copies_to item.0.target m.target (link_of_item item.0 n))
        (λ a b m n p q e. and_from (bytes_eq item.0.target item.0.target) (bytes_eq m.target n.target) (name_itself item.0.target)
        (ap₂ bytes_eq (sym (ap (λ (x : Member). x.target) (member_spelled (columns_at tables item.0.source m.source) m a p).1)) (sym (ap (λ (x : Member). x.target) (member_spelled (columns_at tables item.0.source n.source) n b q).1))
        ∙ (and_parts (bytes_eq l.target.name l.target.name) (bytes_eq a.target b.target) e).1))
        (filter_map (spelled_member_at tables item.0.source) item.0.members) item.0.members (embeds_given (spelled_member_at tables item.0.source) item.0.members) (in_item item.0 item.1)
    each l (inr before) =
        ap (all_differ same_place) (targets_stay before.0 l before.2)
        ∙ part_differs same_place targets_at (known_sets w) before.0 sound.definitions.targets before.1

    apart : (l m : KnownSet) (x y : List ℕ × List ℕ) → In l (known_sets (load_all defs w)) → In m (known_sets (load_all defs w)) → In x (targets_at l) → In y (targets_at m) → same_place x y ≡ true → same_known l m ≡ true
    apart l m x y i j k n e =
        let a = in_map (λ (a : Member). (l.target.name, a.target)) l.at_target.def.members x k in
        let b = in_map (λ (b : Member). (m.target.name, b.target)) m.at_target.def.members y n in
        let same : same_place (l.target.name, a.0.target) (m.target.name, b.0.target) ≡ true = ap₂ same_place (sym a.2) (sym b.2) ∙ e in
        by_members a.0 b.0 a.1 b.1 same
      where
        by_members : (a b : Member) → In a l.at_target.def.members → In b m.at_target.def.members → same_place (l.target.name, a.target) (m.target.name, b.target) ≡ true → same_known l m ≡ true
        by_members a b k n e = by_origin (known_either raw w defs sound accepted l i) (known_either raw w defs sound accepted m j)
          where
            both : (bytes_eq l.target.name m.target.name ≡ true) × (bytes_eq a.target b.target ≡ true)
            both = and_parts (bytes_eq l.target.name m.target.name) (bytes_eq a.target b.target) e

            at : l.target.name ≡ m.target.name
            at = same_name l.target.name m.target.name both.0

            names : a.target ≡ b.target
            names = same_name a.target b.target both.1

            servers : l.at_target.def.target ≡ m.at_target.def.target
            servers = named_target raw w defs sound accepted l i ∙ at ∙ sym (named_target raw w defs sound accepted m j)

            one_name : l.at_target.def.id ≡ m.at_target.def.id → same_known l m ≡ true
            one_name ids = ap (same_set l.at_target.def.id) (sym ids) ∙ id_itself l.at_target.def.id

            by_origin : OfText defs l ⊎ KnownBefore raw w l → OfText defs m ⊎ KnownBefore raw w m → same_known l m ≡ true
            by_origin (inl text) (inl other) =
                let item = set_item raw w defs l.at_target.def accepted text.0 in
                let other_item = set_item raw w defs m.at_target.def accepted other.0 in
                let one : item.0 ≡ other_item.0 = passing_in_one (copies_to l.at_target.def.target a.target) links_of_item raw.sets item.0 other_item.0 (link_of_member l.at_target.def a) (link_of_member m.at_target.def b)
                (once_first (copies_to l.at_target.def.target a.target) (item_links raw) (known_links raw w) (of_text_once raw w defs accepted l.at_target.def text.0 a k)) item.1 other_item.1
                (spelled_link tables item.0 l.at_target.def item.2 a k) (spelled_link tables other_item.0 m.at_target.def other_item.2 b n)
                (goes_to l.at_target.def l.at_target.def a a refl refl) (goes_to l.at_target.def m.at_target.def a b servers names) in
                one_name (ap (λ (def : SetDef). def.id) (same_Some l.at_target.def m.at_target.def (sym item.2 ∙ ap (spelled_set tables) one ∙ other_item.2)))
            by_origin (inl text) (inr before) = absurd (text_alone raw w defs sound accepted l m a b text before k n servers names)
            by_origin (inr before) (inl text) = absurd (text_alone raw w defs sound accepted m l b a text before n k (sym servers) (sym names))
            by_origin (inr before) (inr other) =
                let one : before.0 ≡ other.0 = alike_in_one same_place targets_at (known_sets w) before.0 other.0 (l.target.name, a.target) (m.target.name, b.target) sound.definitions.targets before.1 other.1
                (subst (In (l.target.name, a.target)) (targets_stay before.0 l before.2) (image_in (λ (a : Member). (l.target.name, a.target)) l.at_target.def.members a k))
                (subst (In (m.target.name, b.target)) (targets_stay other.0 m other.2) (image_in (λ (b : Member). (m.target.name, b.target)) m.at_target.def.members b n))
                e (and_from (bytes_eq m.target.name l.target.name) (bytes_eq b.target a.target) (ap (bytes_eq m.target.name) at ∙ name_itself m.target.name) (ap (bytes_eq b.target) names ∙ name_itself b.target)) in
                one_name (ap (λ (side : TargetSide). side.def.id) before.2.at_target ∙ ap (λ (k : KnownSet). k.at_target.def.id) one ∙ sym (ap (λ (side : TargetSide). side.def.id) other.2.at_target))
