-- Which server, and which of its rows, a known set has.
use Rattle.std.proofs.Common.{◌≡◌, ℕ, true, List, Option, Some, sym, ap, subst, ◌∙◌, is_some, option_map, option_and_then, bytes_eq}
use Rattle.repl_model.specs.Words.{SetId, SourceSide, Server, World, KnownSet, same_set, source_side, server_named, known_from, all_differ, In, only_one, found_alone, same_name, name_itself, same_id, id_itself, StandsIn}

-- servers of one name are one, if names differ
pub same_server : (world : World) (a b : Server) → all_differ (λ s t. bytes_eq s.name t.name) world ≡ true → In a world → In b world → bytes_eq a.name b.name ≡ true → a ≡ b
same_server world a b differ i j e = only_one (λ (s t : Server). bytes_eq s.name t.name) world a b differ i j e
    (subst (λ (name : List ℕ). bytes_eq b.name name ≡ true) (sym (same_name a.name b.name e)) (name_itself b.name))

-- a server of a world is the one of its name, if names differ
pub named_alone : (name : List ℕ) (world : World) (server : Server) → all_differ (λ a b. bytes_eq a.name b.name) world ≡ true → In server world → bytes_eq name server.name ≡ true → server_named name world ≡ Some server
named_alone name world server differ i e = found_alone (λ (a b : Server). bytes_eq a.name b.name) (λ (a : Server). bytes_eq name a.name)
    (λ a b of_a of_b. ap (λ (n : List ℕ). bytes_eq n b.name) (sym (same_name name a.name of_a)) ∙ of_b) world server differ i e

-- what is named as a set is one, if no two of some are named as one set
pub same_named : {X : Type 0} (id_of : X → SetId) (xs : List X) (x y : X) → all_differ (λ a b. same_set (id_of a) (id_of b)) xs ≡ true → In x xs → In y xs → same_set (id_of x) (id_of y) ≡ true → x ≡ y
same_named {X} id_of xs x y differ i j e = only_one (λ (a b : X). same_set (id_of a) (id_of b)) xs x y differ i j e
    (subst (λ (id : SetId). same_set (id_of y) id ≡ true) (sym (same_id (id_of x) (id_of y) e)) (id_itself (id_of y)))

-- a known set is known from its row at its target
pub known_itself : (world : World) (k : KnownSet) → StandsIn world k → is_some (known_from world k.target k.at_target) ≡ true
known_itself world k stands =
    ap (λ (o : Option Server). is_some (option_and_then (λ source. option_map (with_side source) (source_side k.at_target.def.id source)) o)) stands.source
    ∙ ap (λ (o : Option SourceSide). is_some (option_map (with_side k.source) o)) stands.at_source
  where
    with_side : Server → SourceSide → KnownSet
    with_side source at_source = record { source = source; at_source = at_source; target = k.target; at_target = k.at_target }
