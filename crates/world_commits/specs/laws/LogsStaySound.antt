-- A world stays sound when the log of one of its servers is made longer.
use Rattle.std.proofs.Common.{◌≡◌, ℕ, Bool, true, false, cond, not, List, [], ◌∷◌, length, Option, Some, refl, sym, ap, subst, ◌∙◌, IsTrue, is_some, append-nil, filter, nat_lt, ◌&&◌, ◌||◌, bytes_eq}
use Rattle.std.specs.List.{AllByRecursion, list_all}
use Rattle.std.specs.Option.{option_map_or}
use Rattle.std.proofs.lemmas.Bool.{and_from}
use Rattle.std.proofs.lemmas.List.Folds.{list_all-append}
use Rattle.repl_model.specs.Words.{all_weaker, LogRecord, SetId, Unit, units, Server, World, KnownSet, server_named, same_set, source_side, target_side, is_known, known_sets, comes_from, is_replica_set, LogIsSound, DefinitionsAreSound, has_origin, replica_sets, read_only_sets, loaded_sets, ReplicaMarksAreSound, IsExactlyOnce, IsIndependent, DecisionsAreCaptured, NumbersAreSound, SignalsAreSound, TrailIsSound, with_more, grown_server, grown, grown_set, new_units, NoneFrom, In, at_one, at_each, in_filter, each_image, found_in, known_stands, source_in, captured_grow, exactly_once_grows, independence_grows, known_sets_grow, marks_grow, numbers_grow, read_only_sets_grow, signals_grow, trail_grows, loaded_sets_grow, new_units_later}
use Rattle.world_commits.specs.logs.LongerLogs.{CanCome}
use Rattle.world_commits.specs.logs.StaysSound.{GrowsSound, UsersRecordsStaySound}
use Rattle.world_commits.specs.logs.laws.Units.{is_past, later_units, none_past_end}
use Rattle.world_commits.specs.logs.laws.Servers.{world_grows}
use Rattle.world_commits.specs.laws.Units.{HasNoOrigin, users_units}
use Rattle.world_commits.specs.laws.ActedSet.{named_alone}
use Rattle.world_commits.specs.laws.LoggedDefinitions.{definitions_longer}
use Rattle.world_commits.specs.laws.OneLog.{log_stays_sound}

-- ---- the units that come

-- the server of the name gets the units of its longer log
pub new_of_named : (name : List ℕ) (more : List LogRecord) (server : Server) → bytes_eq name server.name ≡ true → new_units name more server ≡ later_units server.log more
new_of_named name more server e = new_units_later name more server ∙ ap (λ (b : Bool). later_units server.log (cond b more [])) e

-- a server of another name gets no units
pub none_of_others : (name : List ℕ) (more : List LogRecord) (server : Server) → bytes_eq name server.name ≡ false → new_units name more server ≡ []
none_of_others name more server e =
    new_units_later name more server
    ∙ ap (λ (b : Bool). later_units server.log (cond b more [])) e
    ∙ ap (λ (log : List LogRecord). filter (is_past (length server.log)) (units log)) (append-nil server.log)
    ∙ none_past_end server.log

-- no units can come to any server
none_can_come : (world : World) (server : Server) → CanCome world server []
none_can_come world server = record {
  origins = tt;
  others = at_each (λ (k : KnownSet). IsTrue (list_all (λ u. not (comes_from k.at_target.def.id u)) [])) (replica_sets (known_sets world)) (λ k i. refl);
}

-- a world stays sound when the log of one of its servers is made longer, and no new unit is from a replica set
pub grows_sound : GrowsSound
grows_sound name more world sound log come = record {
  logs = each_image LogIsSound (grown_server name more) world (at_each (λ server. LogIsSound (grown_server name more server)) world (λ server i. log_at server i (bytes_eq name server.name) refl));
  definitions = subst DefinitionsAreSound (sym (world_grows name more world)) (definitions_longer name more world (λ server i. subst (CanCome world server) (new_units_later name more server) (can_come server i)) sound.definitions);
  numbers = numbers_grow name more world sound.numbers;
  signals = subst (AllByRecursion SignalsAreSound) (sym (known_sets_grow name more world))
      (each_image SignalsAreSound (grown_set name more) (known_sets world) (all_weaker SignalsAreSound (λ k. SignalsAreSound (grown_set name more k)) (known_sets world) (signals_grow name more) sound.signals));
  trails = subst (AllByRecursion TrailIsSound) (sym (read_only_sets_grow name more world))
      (each_image TrailIsSound (grown_set name more) (read_only_sets (known_sets world)) (all_weaker TrailIsSound (λ k. TrailIsSound (grown_set name more k)) (read_only_sets (known_sets world)) (trail_grows name more) sound.trails));
  replica_marks = of_loaded ReplicaMarksAreSound (λ k i h. marks_grow name more k (target_numbers k i) (none_from k i) h) sound.replica_marks;
  exactly_once = of_loaded IsExactlyOnce (λ k i h. exactly_once_grows name more k (target_numbers k i) (none_from k i) (marks k i) h) sound.exactly_once;
  independence = of_loaded IsIndependent (λ k i h. independence_grows name more k (target_numbers k i) (none_from k i) (marks k i) h) sound.independence;
  captured_decisions = of_loaded DecisionsAreCaptured (λ k i h. captured_grow name more k (marks k i) h) sound.captured_decisions;
}
  where
    named : (server : Server) → In server world → bytes_eq name server.name ≡ true → server_named name world ≡ Some server
    named server i e = named_alone name world server sound.definitions.names i e

    log_at : (server : Server) → In server world → (b : Bool) → bytes_eq name server.name ≡ b → LogIsSound (cond b (with_more more server) server)
    log_at server i true e = log server (named server i e)
    log_at server i false e = at_one LogIsSound world server sound.logs i

    come_at : (server : Server) → In server world → (b : Bool) → bytes_eq name server.name ≡ b → CanCome world server (new_units name more server)
    come_at server i true e = come server (named server i e)
    come_at server i false e = subst (CanCome world server) (sym (none_of_others name more server e)) (none_can_come world server)

    can_come : (server : Server) → In server world → CanCome world server (new_units name more server)
    can_come server i = come_at server i (bytes_eq name server.name) refl

    replica : (k : KnownSet) → In k (loaded_sets world) → In k (replica_sets (known_sets world))
    replica k i = (in_filter (λ (a : KnownSet). nat_lt 0 (length a.at_target.trail)) (replica_sets (known_sets world)) k i).0

    known : (k : KnownSet) → In k (loaded_sets world) → In k (known_sets world)
    known k i = (in_filter (λ (a : KnownSet). is_replica_set a.at_target.def) (known_sets world) k (replica k i)).0

    target_numbers : (k : KnownSet) → In k (loaded_sets world) → NumbersAreSound k.target
    target_numbers k i = at_one NumbersAreSound world k.target sound.numbers (known_stands world k (known k i)).target

    marks : (k : KnownSet) → In k (loaded_sets world) → ReplicaMarksAreSound k
    marks k i = at_one ReplicaMarksAreSound (loaded_sets world) k sound.replica_marks i

    none_at : (k : KnownSet) → In k (loaded_sets world) → (server : Server) → In server world → list_all (λ u. not (comes_from k.at_target.def.id u)) (new_units name more server) ≡ true
    none_at k i server j = at_one (λ (l : KnownSet). IsTrue (list_all (λ u. not (comes_from l.at_target.def.id u)) (new_units name more server))) (replica_sets (known_sets world)) k (can_come server j).others (replica k i)

    none_from : (k : KnownSet) → In k (loaded_sets world) → NoneFrom name more k
    none_from k i =
        let stands = known_stands world k (known k i) in
        let at_source = new_units name more k.source in
        let at_target = new_units name more k.target in
        let other = λ (u : Unit). not (comes_from k.at_target.def.id u) in
        list_all-append other at_source at_target ∙ and_from (list_all other at_source) (list_all other at_target) (none_at k i k.source (source_in world k stands)) (none_at k i k.target stands.target)

    of_loaded : (P : KnownSet → Type 0) → ((k : KnownSet) → In k (loaded_sets world) → P k → P (grown_set name more k)) → AllByRecursion P (loaded_sets world) → AllByRecursion P (loaded_sets (grown name more world))
    of_loaded P stays all = subst (AllByRecursion P) (sym (loaded_sets_grow name more world))
        (each_image P (grown_set name more) (loaded_sets world) (at_each (λ k. P (grown_set name more k)) (loaded_sets world) (λ k i. stays k i (at_one P (loaded_sets world) k all i))))

-- ---- records of users

-- units without origins aren't from any set
from_none : (id : SetId) (us : List Unit) → AllByRecursion HasNoOrigin us → list_all (λ u. not (comes_from id u)) us ≡ true
from_none id [] h = refl
from_none id (u ∷ us) h = and_from (not (comes_from id u)) (list_all (λ v. not (comes_from id v)) us) (ap (λ (o : Option SetId). not (option_map_or (same_set id) o false)) h.0) (from_none id us h.1)

-- units without origins can come to any server
pub can_come_to : (world : World) (server : Server) (us : List Unit) → AllByRecursion HasNoOrigin us → CanCome world server us
can_come_to world server us h = record {
  origins = all_weaker HasNoOrigin (λ u. IsTrue (has_origin world server u)) us (λ u e. ap (λ (o : Option SetId). option_map_or (λ id. is_known world id && (is_some (source_side id server) || is_some (target_side id server))) o true) e) h;
  others = at_each (λ (k : KnownSet). IsTrue (list_all (λ u. not (comes_from k.at_target.def.id u)) us)) (replica_sets (known_sets world)) (λ k i. from_none k.at_target.def.id us h);
}

-- a world stays sound when users' records follow at one of its servers, each of which can
pub users_records_sound : UsersRecordsStaySound
users_records_sound name rs world sound follow = grows_sound name rs world sound
    (λ server e. log_stays_sound server rs (at_one LogIsSound world server sound.logs (found server e).0) (follow server e))
    (λ server e. subst (CanCome world server) (sym (new_of_named name rs server (found server e).1)) (can_come_to world server (later_units server.log rs) (users_units server rs (follow server e))))
  where
    found : (server : Server) → server_named name world ≡ Some server → In server world × (bytes_eq name server.name ≡ true)
    found server e = found_in (λ (a : Server). bytes_eq name a.name) world server e
