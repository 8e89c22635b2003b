-- What a capture leaves of the servers, by the number of units that were asked for: proofs.
use Rattle.std.proofs.Common.{◌≡◌, ℕ, ◌<◌, List, [], length, refl, sym, ap, subst, ◌∙◌, arith, Option, Some, None, take_all}
use Rattle.world_store.specs.Words.{Stands}
use Rattle.site_store.specs.Words.{Contents, Kept, AllClosed, names, held, work}
use Rattle.site_store.specs.declared.sites.Sites.{Sites}
use Rattle.repl_model.specs.Words.{Unit, Fault, empty_server, World, server_in, LogIsSound}
use Rattle.run_core.specs.Runs.{Went, Stopped}
use Rattle.stored_defs.specs.laws.Standing.{all_at_place}
use Rattle.world_commits.specs.captures.Captures.{uncaptured, taken_units}
use Rattle.capture_core.specs.Capturing.{commits_of, counts_of, HasCapturedAll, HasStopped}
use Rattle.capture_core.specs.Ending.{most_units, first_units, HasEnded, HasFailed}
use Rattle.capture_core.specs.Reading.{greatest}
use Rattle.capture_core.specs.declared.captured.Captured.{Captured}
use Rattle.capture_core.proofs.Standing.{within}
use Rattle.capture_core.proofs.UnitsInTurn.{left_few}

module _ {K : Type 0} (kept : K → Kept) (s0 : Sites K) (closed : AllClosed (work kept s0)) (n : ℕ) (lt : n < length (names s0)) (units : Option ℕ) (most every : ℕ) (is : most ≡ most_units units) (s1 : Sites K) (w : World) (stands : Stands (names s0) (held kept s0) w) where
  -- the units that are taken are the first ones
  taken_first : first_units n most w ≡ taken_units units (server_in w n)
  taken_first = ap (λ (k : ℕ). first_units n k w) is ∙ pick units
    where
      sound : LogIsSound (server_in w n)
      sound = all_at_place LogIsSound w n (empty_server []) stands.sound.logs (within kept s0 closed w stands n lt)

      pick : (o : Option ℕ) → first_units n (most_units o) w ≡ taken_units o (server_in w n)
      pick None = take_all greatest (uncaptured (server_in w n)) (omega (arith, left_few (server_in w n), sound.short))
      pick (Some m) = refl

  -- their commits happened
  pub captured_all : (answer : Captured) → HasEnded kept s0 s1 n most every answer → HasCapturedAll kept s0 s1 n units every w answer
  captured_all answer ended =
      let r = ended.worlds w stands in
      record {
        went = λ t. subst (λ (us : List Unit). Went (Stands (names s0)) (commits_of every (server_in w n).name w us) w (held kept s1) t t) taken_first (r.went t);
        counts = r.counts ∙ ap (λ (us : List Unit). counts_of us (server_in w n)) taken_first;
      }

  -- or the first of them
  pub stopped_first : (s2 : Sites K) (e : Fault) → held kept s2 ≡ held kept s1 → HasFailed kept s0 s1 n most every e → HasStopped kept s0 s2 n units every w e
  stopped_first s2 e same failed =
      let r = failed.worlds w stands in
      record {
        stopped = λ t. subst (λ (q : List Unit × List (Option Contents)). Stopped (Stands (names s0)) (commits_of every (server_in w n).name w q.0) w q.1 t t) (λ i. (taken_first i, sym same i)) (r.stopped t);
        undamaged = r.undamaged;
      }
