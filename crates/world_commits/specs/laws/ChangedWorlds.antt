-- A world stays sound when a commit changes the states of its servers and the rows of their sets, and no log.
use Rattle.std.proofs.Common.{◌≡◌, ◌≤◌, Bool, not, ◌||◌, List, length, map, sym, ap, ap₂, subst, ◌∙◌, arith, nat_lt, filter}
use Rattle.std.specs.List.{AllByRecursion, list_all}
use Rattle.std.proofs.lemmas.List.Folds.{list_all-map}
use Rattle.repl_model.specs.Words.{filter_alike, all_weaker, units, unplaced, is_signal, Trail, TargetSide, Server, World, KnownSet, known_sets, comes_from, LogIsSound, ServerKeepsRules, replica_sets, read_only_sets, loaded_sets, waits_for_load, ReplicaMarksAreSound, IsExactlyOnce, IsIndependent, DecisionsAreCaptured, NumbersAreSound, SignalsAreSound, TrailIsSound, IsSound, In, at_one, at_each, in_filter, each_image, filter_images, known_stands, source_in}
use Rattle.world_commits.specs.laws.Changed.{States, Rows, ServerChange, own_states, rows_change, log_stays_sound, changed, changed_world, changed_set, sets_changed, replica_sets_changed, read_only_sets_changed, replica_is_known, read_only_is_known}
use Rattle.world_commits.specs.laws.ChangedSets.{RowsStay, SetStays, replica_stays, with_own_logs, signals_stay, trail_stays, marks_stay, exactly_once_stays, independence_stays, decisions_stay}
use Rattle.world_commits.specs.laws.ChangedDefinitions.{UnknownStay, definitions_stay}

-- A server has captured no less than before, and its numbers are sound.
pub record HasCapturedMore (before after : Server) : Type 0 where
  pub point : before.captured ≤ after.captured
  pub numbers : NumbersAreSound after

module _ (states : Server → States) (rows : Server → Rows) (world : World) where
  -- the changes of each server
  abbrev f : Server → ServerChange
  f = with_own_logs states rows

  -- What a commit leaves that changes no log: each server has captured no less and its numbers are sound, the rows of
  -- each set that isn't known stay, and those of each known set stay or are sound.
  pub record StatesAndRowsStay : Type 0 where
    pub more : (server : Server) → In server world → HasCapturedMore server (changed f server)
    pub unknown : (server : Server) → In server world → UnknownStay f world server
    pub sets : (k : KnownSet) → In k (known_sets world) → SetStays f k

  module _ (stay : StatesAndRowsStay) (sound : IsSound world) where
    -- the set is loaded
    abbrev is_loaded : KnownSet → Bool
    is_loaded k = nat_lt 0 (length k.at_target.trail)

    -- the rows of a replica set stay
    rows_stay : (k : KnownSet) → In k (replica_sets (known_sets world)) → RowsStay f k
    rows_stay k i =
        let kept = replica_is_known world k i in
        replica_stays f k kept.1 (stay.sets k kept.0)

    -- one that isn't loaded waits for its load
    set_waits : (k : KnownSet) → In k (replica_sets (known_sets world)) → waits_for_load (changed_world f world) (changed_set f k) ≡ waits_for_load world k
    set_waits k i = ap₂ (λ (trail : Trail) (b : Bool). nat_lt 0 (length trail) || b)
        (ap (λ (side : TargetSide). side.trail) (rows_stay k i).target)
        (list_all-map (λ (server : Server). list_all (λ u. not (comes_from k.at_target.def.id u) || list_all is_signal (unplaced u.changes)) (units server.log)) (changed f) world)

    -- the loaded sets are those before
    loaded_changed : loaded_sets (changed_world f world) ≡ map (changed_set f) (loaded_sets world)
    loaded_changed =
        ap (filter is_loaded) (replica_sets_changed f world)
        ∙ filter_images (changed_set f) is_loaded (replica_sets (known_sets world))
        ∙ ap (map (changed_set f)) (filter_alike (λ (k : KnownSet). is_loaded (changed_set f k)) is_loaded (replica_sets (known_sets world))
        (at_each (λ (k : KnownSet). is_loaded (changed_set f k) ≡ is_loaded k) (replica_sets (known_sets world)) (λ k i. ap (λ (side : TargetSide). is_loaded (record k { at_target = side })) (rows_stay k i).target)))

    -- what stays of each of some sets holds of what they become
    of_each : (P : KnownSet → Type 0) (sets : List KnownSet) → ((k : KnownSet) → In k sets → P k → P (changed_set f k)) → AllByRecursion P sets → AllByRecursion P (map (changed_set f) sets)
    of_each P sets each all = each_image P (changed_set f) sets (at_each (λ k. P (changed_set f k)) sets (λ k i. each k i (at_one P sets k all i)))

    -- what stays of each loaded set holds of those that are loaded then
    of_loaded : (P : KnownSet → Type 0) → ((k : KnownSet) → In k (known_sets world) → RowsStay f k → P k → P (changed_set f k)) → AllByRecursion P (loaded_sets world) → AllByRecursion P (loaded_sets (changed_world f world))
    of_loaded P each all = subst (AllByRecursion P) (sym loaded_changed)
        (of_each P (loaded_sets world) (λ k i. let replica = (in_filter is_loaded (replica_sets (known_sets world)) k i).0 in each k (replica_is_known world k replica).0 (rows_stay k replica)) all)

    -- then the world stays sound
    pub changes_sound : IsSound (changed_world f world)
    changes_sound = record {
      logs = each_image LogIsSound (changed f) world (all_weaker LogIsSound (λ server. LogIsSound (changed f server)) world (λ server. log_stays_sound (f server) server) sound.logs);
      definitions = definitions_stay f world (record {
        origins = λ server i. (at_one (ServerKeepsRules world) world server sound.definitions.servers i).origins;
        unknown = stay.unknown;
        sets = stay.sets;
        waiting = λ k i e. set_waits k i ∙ e;
      }) sound.definitions;
      numbers = each_image NumbersAreSound (changed f) world (at_each (λ server. NumbersAreSound (changed f server)) world (λ server i. (stay.more server i).numbers));
      signals = subst (AllByRecursion SignalsAreSound) (sym (sets_changed f world))
          (of_each SignalsAreSound (known_sets world) (λ k i. signals_stay states rows k (stay.sets k i)) sound.signals);
      trails = subst (AllByRecursion TrailIsSound) (sym (read_only_sets_changed f world))
          (of_each TrailIsSound (read_only_sets (known_sets world)) (λ k i. trail_stays states rows k (stay.sets k (read_only_is_known world k i).0)) sound.trails);
      replica_marks = of_loaded ReplicaMarksAreSound (λ k i kept. marks_stay states rows k kept (stay.more k.target (known_stands world k i).target).point) sound.replica_marks;
      exactly_once = of_loaded IsExactlyOnce (λ k i. exactly_once_stays states rows k) sound.exactly_once;
      independence = of_loaded IsIndependent (λ k i. independence_stays states rows k) sound.independence;
      captured_decisions = of_loaded DecisionsAreCaptured (λ k i kept. decisions_stay states rows k kept (stay.more k.source (source_in world k (known_stands world k i))).point) sound.captured_decisions;
    }

-- ---- rows alone

-- changes of the rows of sets alone
abbrev pub rows_alone : (Server → Rows) → Server → ServerChange
rows_alone rows = with_own_logs own_states rows

-- A world stays sound when the rows of sets change, if those of each set that isn't known stay, and those of each known
-- set stay or are sound.
pub rows_sound : (rows : Server → Rows) (world : World) → ((server : Server) → In server world → UnknownStay (rows_alone rows) world server) → ((k : KnownSet) → In k (known_sets world) → SetStays (rows_alone rows) k) → IsSound world → IsSound (changed_world (rows_alone rows) world)
rows_sound rows world unknown sets sound = changes_sound own_states rows world (record { more = λ server i. more server (at_one NumbersAreSound world server sound.numbers i); unknown = unknown; sets = sets }) sound
  where
    more : (server : Server) → NumbersAreSound server → HasCapturedMore server (changed (rows_alone rows) server)
    more server h = record { point = omega arith; numbers = subst NumbersAreSound (rows_change (rows server) server) (record { captured = h.captured; floor = h.floor; registered = h.registered; shown = h.shown }) }
