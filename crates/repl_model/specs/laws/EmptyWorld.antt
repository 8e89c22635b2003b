-- The empty world is sound.
use Rattle.std.proofs.Common.{◌≡◌, ℕ, ◌≤◌, Bool, not, ◌&&◌, ◌||◌, List, [], ◌∷◌, length, refl, sym, ap, ap₂, subst, ◌∙◌, arith, IsTrue, nat_lt, filter, bytes_eq}
use Rattle.std.specs.List.{AllByRecursion, list_all, list_any, flat_map, filter_map}
use Rattle.std.proofs.lemmas.List.{length-map}
use Rattle.repl_types.specs.Name.{is_name}
use Rattle.repl_model.specs.Units.{units}
use Rattle.repl_model.specs.World.{Server, World, KnownSet, same_set, known_sets, known_from, empty_server, empty_world}
use Rattle.lists.specs.Lists.{all_differ}
use Rattle.repl_model.specs.SoundLogs.{LogIsSound}
use Rattle.repl_model.specs.SoundDefinitions.{server_limit, same_place, waits_for_load, ServerKeepsRules, KnownSetKeepsRules, DefinitionsAreSound, targets_of, sources_of, replica_sets, read_only_sets}
use Rattle.repl_model.specs.SoundReplicas.{ReplicaMarksAreSound, IsExactlyOnce, IsIndependent, DecisionsAreCaptured}
use Rattle.repl_model.specs.Sound.{NumbersAreSound, SignalsAreSound, TrailIsSound, IsSound, AreServerNames}

-- in an empty world no set is known, whatever the other servers are
none_known : (world : World) (names : List (List ℕ)) → flat_map (λ target. filter_map (known_from world target) target.target_sets) (empty_world names) ≡ []
none_known world [] = refl
none_known world (name ∷ names) = none_known world names

no_sets : (names : List (List ℕ)) → known_sets (empty_world names) ≡ []
unfolding known_sets
no_sets names = none_known (empty_world names) names

-- what holds of each empty server holds of each server of an empty world
all_empty : (P : Server → Type 0) (Q : List ℕ → Type 0) → ((name : List ℕ) → Q name → P (empty_server name)) → (names : List (List ℕ)) → AllByRecursion Q names → AllByRecursion P (empty_world names)
all_empty P Q f [] h = tt
all_empty P Q f (name ∷ names) h = (f name h.0, all_empty P Q f names h.1)

-- anything holds of each name
always : (names : List (List ℕ)) → AllByRecursion (λ name. Unit {0}) names
always [] = tt
always (name ∷ names) = (tt, always names)

-- a server with nothing has a sound log
log_sound : (name : List ℕ) → LogIsSound (empty_server name)
unfolding units
log_sound name = record { short = omega arith; typed = tt; fits = tt; apply = tt; times = refl; early = tt; own = refl; signals = tt }

-- its numbers are sound
numbers_sound : (name : List ℕ) → NumbersAreSound (empty_server name)
numbers_sound name = record { captured = refl; floor = omega arith; registered = tt; shown = tt }

-- it keeps the rules
rules_kept : (world : World) (name : List ℕ) → IsTrue (is_name name) → ServerKeepsRules world (empty_server name)
unfolding units
rules_kept world name named = record {
  name = named;
  tables = tt;
  count = omega arith;
  differ = refl;
  sources = tt;
  targets = tt;
  counts = (omega arith, omega arith);
  source_names = refl;
  target_names = refl;
  source_members = refl;
  replica_members = refl;
  origins = tt;
}

-- the servers' names are those given
same_any : (name : List ℕ) (names : List (List ℕ)) → list_any (λ b. bytes_eq name b.name) (empty_world names) ≡ list_any (bytes_eq name) names
same_any name [] = refl
same_any name (other ∷ names) = ap (λ (b : Bool). bytes_eq name other || b) (same_any name names)

same_names : (names : List (List ℕ)) → all_differ (λ a b. bytes_eq a.name b.name) (empty_world names) ≡ all_differ bytes_eq names
same_names [] = refl
same_names (name ∷ names) = ap₂ (λ (a b : Bool). not a && b) (same_any name names) (same_names names)

-- the definitions are sound
definitions_sound : (names : List (List ℕ)) → AreServerNames names → DefinitionsAreSound (empty_world names)
definitions_sound names h = record {
  few = subst (λ n. n ≤ server_limit) (sym (length-map names empty_server)) h.few;
  names = same_names names ∙ h.differ;
  servers = all_empty (ServerKeepsRules (empty_world names)) (λ name. IsTrue (is_name name)) (rules_kept (empty_world names)) names h.spelled;
  sets = subst (AllByRecursion KnownSetKeepsRules) (sym (no_sets names)) tt;
  set_names = over (λ sets. IsTrue (all_differ (λ a b. same_set a.at_target.def.id b.at_target.def.id) sets)) refl;
  targets = over (λ sets. IsTrue (all_differ same_place (targets_of sets))) refl;
  chains = over (λ sets. IsTrue (list_all (λ target. not (list_any (same_place target) (sources_of (replica_sets sets)))) (targets_of (replica_sets sets)))) refl;
  unloaded = over (λ sets. AllByRecursion (λ k. IsTrue (waits_for_load (empty_world names) k)) (replica_sets sets)) tt;
}
  where
    over : (P : List KnownSet → Type 0) → P [] → P (known_sets (empty_world names))
    over P p = subst P (sym (no_sets names)) p

-- an empty world is sound
pub empty_is_sound : (names : List (List ℕ)) → AreServerNames names → IsSound (empty_world names)
empty_is_sound names h = record {
  logs = all_empty LogIsSound (λ name. Unit {0}) (λ name _. log_sound name) names (always names);
  definitions = definitions_sound names h;
  numbers = all_empty NumbersAreSound (λ name. Unit {0}) (λ name _. numbers_sound name) names (always names);
  signals = over (AllByRecursion SignalsAreSound) tt;
  trails = over (λ sets. AllByRecursion TrailIsSound (read_only_sets sets)) tt;
  replica_marks = over (λ sets. AllByRecursion ReplicaMarksAreSound (loaded sets)) tt;
  exactly_once = over (λ sets. AllByRecursion IsExactlyOnce (loaded sets)) tt;
  independence = over (λ sets. AllByRecursion IsIndependent (loaded sets)) tt;
  captured_decisions = over (λ sets. AllByRecursion DecisionsAreCaptured (loaded sets)) tt;
}
  where
    loaded : List KnownSet → List KnownSet
    loaded sets = filter (λ k. nat_lt 0 (length k.at_target.trail)) (replica_sets sets)

    over : (P : List KnownSet → Type 0) → P [] → P (known_sets (empty_world names))
    over P p = subst P (sym (no_sets names)) p
