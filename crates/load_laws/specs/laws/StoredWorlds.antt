-- What the servers of a world are by name after the load of one of them, and what sets copy from there.
use Rattle.std.proofs.Common.{◌≡◌, ◌⊎◌, ℕ, zero, suc, Bool, true, false, cond, List, [], ◌∷◌, ◌++◌, map, refl, sym, ap, inl, inr, ◌∙◌, IsTrue, Option, Some, None, IfSome, find, is_some, bytes_eq}
use Rattle.std.specs.List.{AllByRecursion, filter_map}
use Rattle.std.specs.Option.{option_map, option_map_or, option_and_then, option_or}
use Rattle.world_store.specs.Words.{source_of, source_time, MemberStays, SideStays, is_unread, is_same}
use Rattle.repl_model.specs.Words.{all_weaker, Member, SetDef, time_at, SourceTable, synchpoint, Registered, ServerTable, SourceSide, TargetSide, Server, World, KnownSet, as_source, source_named, server_named, source_side, known_from, known_sets, empty_server, ServerKeepsRules, SetKeepsLimits, UnknownTarget, KnownSetKeepsRules, MemberIsSound, ReplicaMemberIsSound, IsSound, given_each, all_of}
use Rattle.spelled_defs.specs.declared.defs.Defs.{Defs}
use Rattle.load_laws.specs.worlds.Loads.{new_tables, registration_in, register, load_server, load_at, server_at}
use Rattle.load_laws.specs.laws.StoredLists.{all_with, all_read, each_list}

-- ---- servers by name

-- the server of a name stays, or is the loaded one
named_loads : (defs : Defs) (name : List ℕ) (world : World) (n : ℕ) → (server_named name (load_at defs n world) ≡ server_named name world) ⊎ (server_named name (load_at defs n world) ≡ option_map (load_server defs) (server_named name world))
named_loads defs name [] n = inl refl
named_loads defs name (s ∷ ss) zero = pick (bytes_eq name s.name)
  where
    pick : (b : Bool) → (cond b (Some (load_server defs s)) (server_named name ss) ≡ cond b (Some s) (server_named name ss)) ⊎ (cond b (Some (load_server defs s)) (server_named name ss) ≡ option_map (load_server defs) (cond b (Some s) (server_named name ss)))
    pick true = inr refl
    pick false = inl refl
named_loads defs name (s ∷ ss) (suc n) = pick (bytes_eq name s.name) (named_loads defs name ss n)
  where
    pick : (b : Bool) → (server_named name (load_at defs n ss) ≡ server_named name ss) ⊎ (server_named name (load_at defs n ss) ≡ option_map (load_server defs) (server_named name ss))
        → (cond b (Some s) (server_named name (load_at defs n ss)) ≡ cond b (Some s) (server_named name ss)) ⊎ (cond b (Some s) (server_named name (load_at defs n ss)) ≡ option_map (load_server defs) (cond b (Some s) (server_named name ss)))
    pick true rest = inl refl
    pick false rest = rest

-- the time at a point of a set's source stays
time_stays : (defs : Defs) (world : World) (n : ℕ) (def : SetDef) (point : ℕ) → source_time (load_at defs n world) def point ≡ source_time world def point
time_stays defs world n def point = elim (named_loads defs def.source world n) [
  | inl same ↦ ap (λ (o : Option Server). option_map_or (λ source. time_at source.log point) o 0) same
  | inr loaded ↦ ap (λ (o : Option Server). option_map_or (λ source. time_at source.log point) o 0) loaded ∙ grown (server_named def.source world)
]
  where
    grown : (o : Option Server) → option_map_or (λ (source : Server). time_at source.log point) (option_map (load_server defs) o) 0 ≡ option_map_or (λ source. time_at source.log point) o 0
    grown None = refl
    grown (Some source) = refl

-- ---- sources

-- a registered table of a server is the same source after the server is loaded
source_stays : (defs : Defs) (name : List ℕ) (server : Server) (s : SourceTable) → source_named name server ≡ Some s → source_named name (load_server defs server) ≡ Some s
source_stays defs name server s e = among server.tables e
  where
    registered : (t : ServerTable) (o : Option Registered) → option_map (λ r. record { def = t.def; reg = r.reg; log = server.log }) o ≡ Some s → option_map (λ r. record { def = t.def; reg = r.reg; log = server.log }) (option_or o (registration_in defs server t)) ≡ Some s
    registered t None e = absurd cc
    registered t (Some r) e = e

    pick : (t : ServerTable) (found later : Option ServerTable) (b : Bool) → (option_and_then (as_source server) found ≡ Some s → option_and_then (as_source (load_server defs server)) later ≡ Some s)
        → option_and_then (as_source server) (cond b (Some t) found) ≡ Some s → option_and_then (as_source (load_server defs server)) (cond b (Some (register defs server t)) later) ≡ Some s
    pick t found later true rest e = registered t t.registered e
    pick t found later false rest e = rest e

    among : (ts : List ServerTable) → option_and_then (as_source server) (find (λ t. bytes_eq name t.def.name) ts) ≡ Some s
        → option_and_then (as_source (load_server defs server)) (find (λ t. bytes_eq name t.def.name) (map (register defs server) (ts ++ new_tables defs server))) ≡ Some s
    among [] e = absurd cc
    among (t ∷ ts) e = pick t (find (λ t. bytes_eq name t.def.name) ts) (find (λ t. bytes_eq name t.def.name) (map (register defs server) (ts ++ new_tables defs server))) (bytes_eq name t.def.name) (among ts) e

-- the source of a member stays if there is one
member_stays : (defs : Defs) (world : World) (n : ℕ) (def : SetDef) (member : Member) (s : SourceTable) → source_of world def member ≡ Some s → source_of (load_at defs n world) def member ≡ source_of world def member
member_stays defs world n def member s e = elim (named_loads defs def.source world n) [
  | inl same ↦ ap (option_and_then (source_named member.source)) same
  | inr loaded ↦ ap (option_and_then (source_named member.source)) loaded ∙ grown (server_named def.source world) e
]
  where
    grown : (o : Option Server) → option_and_then (source_named member.source) o ≡ Some s → option_and_then (source_named member.source) (option_map (load_server defs) o) ≡ option_and_then (source_named member.source) o
    grown None e = refl
    grown (Some source) e = source_stays defs member.source source s e ∙ sym e

-- ---- sets at their targets

-- a set stays if it keeps the rules at both its ends, or has an empty trail
side_stays : (defs : Defs) (world : World) (n : ℕ) (target : Server) (side : TargetSide) → IfSome (known_from world target side) KnownSetKeepsRules → UnknownTarget world target side → SideStays world (load_at defs n world) side
side_stays defs world n target side known has = record {
  time = time_stays defs world n side.def (synchpoint side.trail);
  sources = elim has [
    | inl stands ↦ at (server_named side.def.source world) refl stands known
    | inr fresh ↦ all_of Stays side.def.members (λ member. is_unread fresh.1)
  ];
}
  where
    Stays : Member → Type 0
    Stays = MemberStays world (load_at defs n world) side

    set_at : Server → SourceSide → KnownSet
    set_at source at_source = record { source = source; at_source = at_source; target = target; at_target = side }

    of_member : (source : Server) (member : Member) (s : SourceTable) → server_named side.def.source world ≡ Some source → source_named member.source source ≡ Some s → Stays member
    of_member source member s named e = is_same (member_stays defs world n side.def member s (ap (option_and_then (source_named member.source)) named ∙ e))

    with_side : (source : Server) (o : Option SourceSide) → server_named side.def.source world ≡ Some source → IsTrue (is_some (option_map (set_at source) o)) → IfSome (option_map (set_at source) o) KnownSetKeepsRules → AllByRecursion Stays side.def.members
    with_side source None named stands known = absurd cc
    with_side source (Some at_source) named stands known = elim known.members [
      | inl read_only ↦ all_weaker {X = Member} (MemberIsSound (set_at source at_source)) Stays side.def.members (λ member sound. of_member source member sound.2.0 named sound.2.1) read_only.0
      | inr replica ↦ all_weaker {X = Member} (ReplicaMemberIsSound (set_at source at_source)) Stays side.def.members (λ member sound. of_member source member sound.1.0 named sound.1.2) replica.0
    ]

    at : (o : Option Server) → server_named side.def.source world ≡ o → IsTrue (is_some (option_and_then (λ source. option_map (set_at source) (source_side side.def.id source)) o))
        → IfSome (option_and_then (λ source. option_map (set_at source) (source_side side.def.id source)) o) KnownSetKeepsRules → AllByRecursion Stays side.def.members
    at None named stands known = absurd cc
    at (Some source) named stands known = with_side source (source_side side.def.id source) named stands known

-- each known set keeps the rules, seen from its target
each_known : (world : World) → AllByRecursion KnownSetKeepsRules (known_sets world) → AllByRecursion (λ target. AllByRecursion (λ side. IfSome (known_from world target side) KnownSetKeepsRules) target.target_sets) world
unfolding known_sets
each_known world all =
    all_weaker {X = Server} (λ target. AllByRecursion KnownSetKeepsRules (filter_map (known_from world target) target.target_sets)) (λ target. AllByRecursion (λ side. IfSome (known_from world target side) KnownSetKeepsRules) target.target_sets) world
    (λ target sets. given_each KnownSetKeepsRules (known_from world target) target.target_sets sets)
    (each_list KnownSetKeepsRules (λ (target : Server). filter_map (known_from world target) target.target_sets) world all)

-- so each set stays whose target a server of a sound world is
pub all_sources_stay : (defs : Defs) (world : World) (n m : ℕ) → IsSound world → AllByRecursion (SideStays world (load_at defs n world)) (server_at world m).target_sets
all_sources_stay defs world n m sound =
    all_read (λ server. AllByRecursion (SideStays world (load_at defs n world)) server.target_sets) world m (empty_server [])
    (all_with {X = Server} (λ target. AllByRecursion (λ side. IfSome (known_from world target side) KnownSetKeepsRules) target.target_sets) (ServerKeepsRules world) (λ server. AllByRecursion (SideStays world (load_at defs n world)) server.target_sets) world
    (λ target sets keeps. all_with {X = TargetSide} (λ side. IfSome (known_from world target side) KnownSetKeepsRules) (λ side. (side.def.target ≡ target.name) × SetKeepsLimits world side.def × UnknownTarget world target side) (SideStays world (load_at defs n world)) target.target_sets (λ side known kept. side_stays defs world n target side known kept.2) sets keeps.targets)
    (each_known world sound.definitions.sets) sound.definitions.servers) tt
