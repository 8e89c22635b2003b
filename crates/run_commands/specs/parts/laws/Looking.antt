-- Parts of a run that begin with reads.
use Rattle.std.proofs.Common.{◌≡◌, ℕ, List, Bool, refl, sym, subst, arith, Option, Some, IsSome}
use Rattle.world_store.specs.Words.{Stands}
use Rattle.site_store.specs.Words.{Contents, Kept, AllClosed, names, held, work, KeepsServers, Blames, IsNoDamage, keeps_passed, keeps_then, Looks, Stops}
use Rattle.site_store.specs.declared.sites.Sites.{Sites}
use Rattle.repl_model.specs.Words.{Area, DamageCause, Fault, World}
use Rattle.repl_types.specs.declared.fault.Fault.TheVariants as faults
use Rattle.run_core.specs.Runs.{Event, Went, Stopped}
use Rattle.run_core.specs.laws.Runs.{stopped_before}
use Rattle.run_commands.specs.parts.Causes.{PartHasCause, FoundByRead}
use Rattle.run_commands.specs.parts.Parts.{Happened, StoppedIn}
use Rattle.run_commands.specs.parts.RunErrors.{error_of_fault}
use Rattle.run_commands.specs.declared.parts.run_error.RunError.{RunError}
use Rattle.run_commands.specs.parts.laws.Damage.{IsOfRun, fault_reads, fault_cause}
use Rattle.run_commands.specs.parts.laws.Parts.{later_cause}

module _ {K : Type 0} (kept : K → Kept) (s0 s1 : Sites K) where
  -- ---- reads

  module _ (looks : Looks kept s0 s1) where
    -- they keep the servers
    pub looked_keeps : AllClosed (work kept s0) → KeepsServers kept s0 s1
    looked_keeps closed = keeps_passed kept s0 s1 looks.most looks.stays.passes (subst AllClosed (sym looks.stays.work) closed)

    -- and the world for which these stand
    pub looked_stands : (w : World) → Stands (names s0) (held kept s0) w → Stands (names s1) (held kept s1) w
    looked_stands w stands = subst (λ (l : List (List ℕ)). Stands l (held kept s1) w) (sym looks.stays.passes.names) (subst (λ (h : List (Option Contents)). Stands (names s0) h w) (sym looks.stays.held) stands)

    -- a world for which the servers stand after them is one for which they stood before
    pub stood_before : (w : World) → Stands (names s1) (held kept s1) w → Stands (names s0) (held kept s0) w
    stood_before w stands = subst (λ (h : List (Option Contents)). Stands (names s0) h w) looks.stays.held (subst (λ (l : List (List ℕ)). Stands l (held kept s1) w) looks.stays.passes.names stands)

    -- no transaction is open after them
    pub closed_after : AllClosed (work kept s0) → AllClosed (work kept s1)
    closed_after closed = (looked_keeps closed).closed

    -- what keeps the servers after them keeps them from the beginning
    pub keeps_after : AllClosed (work kept s0) → (s2 : Sites K) → KeepsServers kept s1 s2 → KeepsServers kept s0 s2
    keeps_after closed s2 keeps = keeps_then kept s0 s1 s2 (looked_keeps closed) keeps

    module _ (s2 : Sites K) (t u : Option (List ℕ)) where
      -- what went on after them went on from the beginning
      pub went_looked : (w : World) (events : List (Event World)) → Went (Stands (names s1)) events w (held kept s2) t u → Went (Stands (names s0)) events w (held kept s2) t u
      went_looked w events = subst (λ (l : List (List ℕ)). Went (Stands l) events w (held kept s2) t u) looks.stays.passes.names

      -- and what stopped after them stopped from there
      pub ended_looked : (w : World) (events : List (Event World)) → Stopped (Stands (names s1)) events w (held kept s2) t u → Stopped (Stands (names s0)) events w (held kept s2) t u
      ended_looked w events = subst (λ (l : List (List ℕ)). Stopped (Stands l) events w (held kept s2) t u) looks.stays.passes.names

      -- a part that happened after them happened from the beginning
      pub happened_looked : (events : World → List (Event World)) (answer : Bool) → Happened kept s1 s2 t u events answer → Happened kept s0 s2 t u events answer
      happened_looked events answer happened = λ w stands. let here = happened w (looked_stands w stands) in (went_looked w (events w) here.0, here.1)

      -- so it is with one that stopped
      pub stopped_looked : (events : World → List (Event World)) → StoppedIn kept s1 s2 t u events → StoppedIn kept s0 s2 t u events
      stopped_looked events stopped = λ w stands. ended_looked w (events w) (stopped w (looked_stands w stands))

    -- why a part after them ended
    pub cause_looked : AllClosed (work kept s0) → (s2 : Sites K) (before now : ℕ) (e : RunError) → PartHasCause kept s1 s2 before now e → PartHasCause kept s0 s2 before now e
    cause_looked closed s2 before now e = later_cause kept s0 s1 s2 before before now e (looked_keeps closed) (λ w stands. (w, subst (λ (h : List (Option Contents)). Stands (names s0) h w) (sym looks.stays.held) stands)) (omega arith)

  -- ---- reads that fail

  module _ (damage : ℕ → Area → DamageCause → Type 0) (shown : IsOfRun kept s0 damage) (e : Fault) (stops : Stops kept s0 s1 damage e) where
    -- they keep the servers
    pub stops_keeps : AllClosed (work kept s1) → KeepsServers kept s0 s1
    stops_keeps closed = keeps_passed kept s0 s1 stops.most stops.passes closed

    -- nothing was done
    pub stops_before : (t : Option (List ℕ)) (events : World → List (Event World)) → StoppedIn kept s0 s1 t t events
    stops_before t events = λ w stands. stopped_before (Stands (names s0)) w (events w) (held kept s1) t (subst (λ (h : List (Option Contents)). Stands (names s0) h w) (sym stops.held) stands)

    -- nothing is refused by them
    pub stops_run : IsSome (error_of_fault e)
    stops_run = pick e stops.blames
      where
        pick : (e : Fault) → Blames kept s0 s1 damage e → IsSome (error_of_fault e)
        pick faults.Memory blames = refl
        pick (faults.Keeper s) blames = refl
        pick (faults.Damaged s a cause) blames = refl
        pick (faults.Refused refusal) blames = absurd blames

    -- what it found was read
    pub stops_reads : (error : RunError) → Some error ≡ error_of_fault e → FoundByRead error
    stops_reads error is = fault_reads kept s0 s1 damage shown e error is stops.blames

    -- why the run ends
    pub stops_cause : AllClosed (work kept s0) → AllClosed (work kept s1) → ((w : World) → Stands (names s0) (held kept s0) w → IsNoDamage e) → (before now : ℕ) (error : RunError) → Some error ≡ error_of_fault e → PartHasCause kept s0 s1 before now error
    stops_cause closed after none before now error is = fault_cause kept s0 s1 closed (stops_keeps after) damage shown before now e error is stops.blames (λ n a cause met. stops.held) none
