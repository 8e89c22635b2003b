-- The definitions of a world one of whose logs is made longer stay sound.
use Rattle.std.proofs.Common.{◌≡◌, ℕ, Bool, true, not, ◌||◌, ◌⊎◌, inl, inr, List, ◌++◌, length, map, refl, sym, ap, subst, ◌∙◌, IsTrue, nat_lt}
use Rattle.std.specs.List.{AllByRecursion, list_all}
use Rattle.std.proofs.lemmas.Bool.{and_from, or_cases, or_left, or_right}
use Rattle.std.proofs.lemmas.List.Folds.{list_all-map, list_all-append}
use Rattle.std.proofs.Math.Path.{fun_ext}
use Rattle.repl_model.specs.Words.{all_append, LogRecord, SetId, Unit, units, unplaced, is_signal, Server, World, KnownSet, known_sets, comes_from, has_origin, ServerKeepsRules, replica_sets, waits_for_load, DefinitionsAreSound, In, at_one, passes_at, all_pass_from, units_longer}
use Rattle.world_commits.specs.logs.LongerLogs.{CanCome}
use Rattle.world_commits.specs.logs.laws.Units.{later_units}
use Rattle.world_commits.specs.logs.laws.Servers.{more_for, longer_world}
use Rattle.world_commits.specs.laws.Changed.{ServerChange, own_states, own_rows, log_changes, changed, changed_world, changed_set}
use Rattle.world_commits.specs.laws.ChangedDefinitions.{definitions_stay}

-- the changes of each server when the log of the one of this name is made longer
abbrev lengthening : List ℕ → List LogRecord → Server → ServerChange
lengthening name more server = record { log = server.log ++ more_for name more server; states = own_states server; rows = own_rows }

-- each server is the one before, with its changes
world_lengthens : (name : List ℕ) (more : List LogRecord) (world : World) → longer_world name more world ≡ changed_world (lengthening name more) world
world_lengthens name more world = ap (λ (g : Server → Server). map g world) (fun_ext (λ server. log_changes (server.log ++ more_for name more server) server))

-- a unit from a set that isn't loaded changes no row
abbrev waits : SetId → Unit → Bool
waits id u = not (comes_from id u) || list_all is_signal (unplaced u.changes)

module _ (name : List ℕ) (more : List LogRecord) (world : World) (can : (server : Server) → In server world → CanCome world server (later_units server.log (more_for name more server))) where
  -- the servers and sets with their changes
  abbrev f : Server → ServerChange
  f = lengthening name more

  -- a replica set that isn't loaded waits for its load, if no later unit is from it
  set_waits : (k : KnownSet) → In k (replica_sets (known_sets world)) → IsTrue (waits_for_load world k) → IsTrue (waits_for_load (changed_world f world) (changed_set f k))
  set_waits k i e = by_cases (or_cases loaded (list_all waited world) e)
    where
      id : SetId
      id = k.at_target.def.id

      loaded : Bool
      loaded = nat_lt 0 (length k.at_target.trail)

      waited : Server → Bool
      waited server = list_all (waits id) (units server.log)

      none_waits : (us : List Unit) → list_all (λ u. not (comes_from id u)) us ≡ true → list_all (waits id) us ≡ true
      none_waits us none = all_pass_from (waits id) us (λ u j. or_left (not (comes_from id u)) (list_all is_signal (unplaced u.changes)) (passes_at (λ (v : Unit). not (comes_from id v)) us u none j))

      at_server : list_all waited world ≡ true → (server : Server) → In server world → waited (changed f server) ≡ true
      at_server all server j =
          let later = later_units server.log (more_for name more server) in
          ap (list_all (waits id)) (units_longer server.log (more_for name more server))
          ∙ list_all-append (waits id) (units server.log) later
          ∙ and_from (list_all (waits id) (units server.log)) (list_all (waits id) later) (passes_at waited world server all j)
          (none_waits later (at_one (λ (l : KnownSet). IsTrue (list_all (λ u. not (comes_from l.at_target.def.id u)) later)) (replica_sets (known_sets world)) k (can server j).others i))

      by_cases : (loaded ≡ true) ⊎ (list_all waited world ≡ true) → (loaded || list_all waited (changed_world f world)) ≡ true
      by_cases (inl is) = or_left loaded (list_all waited (changed_world f world)) is
      by_cases (inr all) = or_right loaded (list_all waited (changed_world f world)) (list_all-map waited (changed f) world ∙ all_pass_from (λ (server : Server). waited (changed f server)) world (at_server all))

  -- the definitions stay sound, if the later units of each server can come to it
  pub definitions_longer : DefinitionsAreSound world → DefinitionsAreSound (longer_world name more world)
  definitions_longer d = subst DefinitionsAreSound (sym (world_lengthens name more world)) (definitions_stay f world (record {
    origins = λ server i. subst (AllByRecursion (λ (u : Unit). IsTrue (has_origin world server u))) (sym (units_longer server.log (more_for name more server)))
        (all_append (λ (u : Unit). IsTrue (has_origin world server u)) (units server.log) (later_units server.log (more_for name more server)) (at_one (ServerKeepsRules world) world server d.servers i).origins (can server i).origins);
    unknown = λ server i. record { sources = λ side j. inr refl; targets = λ side j. inr refl };
    sets = λ k i. inl (record { source = refl; target = refl });
    waiting = set_waits;
  }) d)
