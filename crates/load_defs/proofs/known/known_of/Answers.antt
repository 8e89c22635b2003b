use Rattle.std.proofs.Common.{rules, ◌≡◌, ◌+◌, ◌<◌, ℕ, List, ◌∷◌, ◌++◌, length, drop, map, slice_index_or, sym, ap, ◌∙◌, filter, flat_map}
use Rattle.std.proofs.lemmas.List.{append_assoc, drop_more}
use Rattle.load_laws.specs.planned.Planned.{stands_stored}
use Rattle.load_defs.proofs.known.known_of.Goals as goal

-- what the elements so far gave, followed by what this one and the rest give, is what all give
one_more : {X A : Type 0} (f : X → List A) (xs : List X) (i : ℕ) (x : X) (old new all : List A) → i < length xs → x ≡ slice_index_or xs i x → new ≡ old ++ f x → old ++ flat_map f (drop i xs) ≡ all → new ++ flat_map f (drop (i + 1) xs) ≡ all
one_more {X} {A} f xs i x old new all within is grown before =
    let left : drop i xs ≡ x ∷ drop (i + 1) xs = drop_more xs i x within ∙ ap (λ (y : X). y ∷ drop (i + 1) xs) (sym is) in
    ap (λ (l : List A). l ++ flat_map f (drop (i + 1) xs)) grown
    ∙ append_assoc old (f x) (flat_map f (drop (i + 1) xs))
    ∙ ap (λ (l : List X). old ++ flat_map f l) (sym left)
    ∙ before

pub servers-preserved : goal.servers-preserved
servers-preserved c =
    let stored = c.args.stored.now in
    let i = c.servers.server-index in
    let server = c.server-item.result in
    let within : i < length stored = search rules in
    let is : server ≡ slice_index_or stored i server = search rules in
    record {
      tables = one_more (λ server. map (λ row. record { server = server.name; def = row.def }) server.tables) stored i server _ _ _ within is c.in_ok-push_tables.ensures c.servers.invariant.tables;
      registrations = one_more (λ server. map (λ row. record { server = server.name; def = row.registration }) server.registrations) stored i server _ _ _ within is c.in_ok-push_registrations.ensures c.servers.invariant.registrations;
      sets = one_more (λ server. filter (stands_stored stored) (map (λ row. row.def) server.targets)) stored i server _ _ _ within is (rw c.as_slice.ensures at c.in_ok-push_sets.ensures) c.servers.invariant.sets;
    }
