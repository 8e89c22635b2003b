-- How a capture is carried out.
use Rattle.std.proofs.Common.{◌≡◌, ◌∙◌, ℕ, ◌<◌, List, [], ◌∷◌, ◌++◌, length, map, take, Bool, false, refl, sym, ap, subst, arith, Option, Some, IsSome}
use Rattle.std.specs.Option.{option_map_or}
use Rattle.world_store.specs.Words.{Stands}
use Rattle.site_store.specs.Words.{Kept, Takes, TakesPrefix, KeepsServers, Blames, AllClosed, HasNone, IsPlace, names, held, work}
use Rattle.site_store.specs.declared.sites.Sites.{Sites}
use Rattle.repl_model.specs.Words.{Fault, World, server_in}
use Rattle.repl_types.specs.declared.refusal.Refusal.TheVariants as refusals
use Rattle.repl_types.specs.declared.fault.Fault.TheVariants as faults
use Rattle.run_core.specs.Runs.{Event, commits, writes, is_refused, Stopped}
use Rattle.run_core.specs.laws.Runs.{stopped_in_first}
use Rattle.world_commits.specs.captures.Captures.{captured, taken_units}
use Rattle.capture_core.specs.Capturing.{batch_ends, captured_counts, HasCapturedAll, HasStopped, capture_events as capture_commits}
use Rattle.capture_core.specs.Rules.{rules, ShowsDamage}
use Rattle.capture_core.specs.declared.captured.Captured.{Captured}
use Rattle.run_commands.specs.parts.Causes.{PartHasCause}
use Rattle.run_commands.specs.parts.Parts.{then_events, Happened, StoppedIn}
use Rattle.run_commands.specs.parts.Refusing.{refused}
use Rattle.run_commands.specs.parts.RunErrors.{error_of_fault}
use Rattle.run_commands.specs.declared.parts.run_error.RunError.{RunError}
use Rattle.run_commands.specs.parts.laws.Damage.{capture_shown, end_cause}
use Rattle.run_commands.specs.parts.laws.Parts.{happened_as, stopped_as, happened_both, stopped_second, line_written, line_begun}
use Rattle.run_commands.specs.capture.CaptureEvents.{units_per_commit, counts_line, server_events, capture_events}
use Rattle.run_commands.proofs.UnitNumbers.{number_at_place, no_number}

-- ---- commits

-- at least one unit is committed at once
pub some_units : (every : Option ℕ) → 0 < units_per_commit every
some_units every = omega arith

-- commits refuse nothing
none_refused : (world : ℕ → World) (ks : List ℕ) → false ≡ is_refused (map (λ k. commits (world k)) ks)
none_refused world [] = refl
none_refused world (k ∷ ks) = none_refused world ks

module _ {K : Type 0} (kept : K → Kept) (s0 : Sites K) (closed : AllClosed (work kept s0)) (name : List ℕ) (units every : Option ℕ) where
  -- what a run does at what the world has as the number of the server
  abbrev at_number : World → Option ℕ → List (Event World)
  at_number w o = option_map_or (server_events units every w) o (refused (refusals.NoSuchServer name))

  -- ---- a server that isn't there

  -- it is refused
  pub none_there : HasNone (names s0) name → (w : World) → Stands (names s0) (held kept s0) w → refused (refusals.NoSuchServer name) ≡ capture_events name units every w
  none_there none w stands = ap (at_number w) (sym (no_number kept s0 closed w stands name none))

  module _ (n : ℕ) (place : IsPlace (names s0) name n) (s1 : Sites K) (keeps : KeepsServers kept s0 s1) (t : Option (List ℕ)) where
    -- ---- a server that is there

    -- the commits come first
    abbrev first : World → List (Event World)
    first w = capture_commits n units (units_per_commit every) w

    -- they refuse nothing
    first_taken : (w : World) → false ≡ is_refused (first w)
    first_taken w =
        let server = server_in w n in
        let us = taken_units units server in
        none_refused (λ k. captured server.name (take k us) w) (batch_ends (units_per_commit every) (length us))

    -- then the line of the counts that are answered
    abbrev told : Captured → List (Event World)
    told answer = writes (counts_line answer) ∷ []

    -- these are the events at the server
    at_place : (w : World) → Stands (names s0) (held kept s0) w → server_events units every w n ≡ capture_events name units every w
    at_place w stands = ap (at_number w) (sym (number_at_place kept s0 closed w stands name n place))

    module _ (answer : Captured) (has : (w : World) → Stands (names s0) (held kept s0) w → HasCapturedAll kept s0 s1 n units (units_per_commit every) w answer) (u : Option (List ℕ)) where
      -- all commits happened
      first_happened : Happened kept s0 s1 t t first false
      first_happened = λ w stands. ((has w stands).went t, first_taken w)

      -- with the counts that are answered, the events are those at the server
      counts_told : (w : World) → Stands (names s0) (held kept s0) w → first w ++ told answer ≡ capture_events name units every w
      counts_told w stands = ap (λ (counts : Captured). first w ++ told counts) (has w stands).counts ∙ at_place w stands

      -- the line was written
      pub capture_written : (refuses : Bool) → (refuses ≡ false) × Takes t u (counts_line answer) → Happened kept s0 s1 t u (capture_events name units every) refuses
      capture_written refuses wrote = happened_as kept s0 s1 t u (then_events first (λ v. told answer)) (capture_events name units every) counts_told refuses
          (happened_both kept s0 s1 s1 keeps.names t t u first (λ v. told answer) false refuses first_happened (line_written kept s1 t u (counts_line answer) refuses wrote))

      -- a prefix of it was
      pub capture_begun : TakesPrefix t u (counts_line answer) → StoppedIn kept s0 s1 t u (capture_events name units every)
      capture_begun wrote = stopped_as kept s0 s1 t u (then_events first (λ v. told answer)) (capture_events name units every) counts_told
          (stopped_second kept s0 s1 s1 keeps.names t t u first (λ v. told answer) false first_happened (line_begun kept s1 t u (counts_line answer) wrote))

    -- ---- a fault

    module _ (e : Fault) (blames : Blames kept s0 s1 (ShowsDamage kept s1 n) e) where
      -- it isn't that something is refused
      pub ends_run : IsSome (error_of_fault e)
      ends_run = pick e blames
        where
          pick : (e : Fault) → Blames kept s0 s1 (ShowsDamage kept s1 n) e → IsSome (error_of_fault e)
          pick faults.Memory blames = refl
          pick (faults.Keeper s) blames = refl
          pick (faults.Damaged s a cause) blames = refl
          pick (faults.Refused refusal) blames = absurd blames

      module _ (has : (w : World) → Stands (names s0) (held kept s0) w → HasStopped kept s0 s1 n units (units_per_commit every) w e) where
        -- some commits happened
        pub capture_stopped : StoppedIn kept s0 s1 t t (capture_events name units every)
        capture_stopped = λ w stands. subst (λ (es : List (Event World)). Stopped (Stands (names s0)) es w (held kept s1) t t) (at_place w stands)
            (stopped_in_first (Stands (names s0)) w (first w) (told (captured_counts n units w)) (held kept s1) t t ((has w stands).stopped t))

        -- why the run ends
        pub capture_cause : (before now : ℕ) (error : RunError) → Some error ≡ error_of_fault e → PartHasCause kept s0 s1 before now error
        capture_cause before now error is = end_cause kept s0 s1 closed keeps rules capture_shown (λ s. s ≡ n) (λ s at. subst (λ (m : ℕ). m < length (names s0)) (sym at) place.within) before now e error is blames
            (λ w stands. (has w stands).undamaged)
