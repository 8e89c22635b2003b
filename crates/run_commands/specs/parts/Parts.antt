-- Words for the contracts of the parts of a run at servers.
use Rattle.std.specs.Prelude.{◌≡◌, ◌≤◌, ℕ, Bool, List, ◌++◌, Option, Result, IfOk, IfErr, OnErr}
use Rattle.repl_types.specs.declared.refusal.Refusal.{Refusal}
use Rattle.keep_core.specs.Kept.{Kept}
use Rattle.keep_core.specs.Revealed.{Takes, TakesPrefix}
use Rattle.repl_model.specs.World.{World}
use Rattle.run_core.specs.Runs.{Event, last_world, lines_of, Went, Stopped, is_refused}
use Rattle.site_store.specs.Calls.{KeepsServers}
use Rattle.site_store.specs.Views.{names, held}
use Rattle.site_store.specs.declared.sites.Sites.{Sites}
use Rattle.world_store.specs.Stands.{Stands}
use Rattle.run_commands.specs.parts.Causes.{PartHasCause, IsOfOutput}
use Rattle.run_commands.specs.parts.Refusing.{refused}
use Rattle.run_commands.specs.declared.parts.run_error.RunError.{RunError}

-- the events of two parts in turn
abbrev pub then_events : (World → List (Event World)) → (World → List (Event World)) → World → List (Event World)
then_events first second w = let events = first w in events ++ second (last_world w events)

module _ {K : Type 0} (kept : K → Kept) (old new : Sites K) where
  -- All of this happened, from each world that the servers stood for, and the answer says whether something was refused.
  abbrev pub Happened : Option (List ℕ) → Option (List ℕ) → (World → List (Event World)) → Bool → Type 0
  Happened before now events refused = (w : World) → Stands (names old) (held kept old) w → Went (Stands (names old)) (events w) w (held kept new) before now × (refused ≡ is_refused (events w))

  -- Some of it happened, from its beginning on, and of the next line at most a part was written.
  abbrev pub StoppedIn : Option (List ℕ) → Option (List ℕ) → (World → List (Event World)) → Type 0
  StoppedIn before now events = (w : World) → Stands (names old) (held kept old) w → Stopped (Stands (names old)) (events w) w (held kept new) before now

-- What a part of a run does to the servers and to its output, and what its result says of it: at Ok all of these events
-- happened, and `refuses` says of the value whether something was refused; at an error some of them did, and it has a cause.
pub record IsPart {K O T : Type 0} (kept : K → Kept) (taken : O → Option (List ℕ)) (faults : O → ℕ) (old new : Sites K) (before now : O) (events : World → List (Event World)) (refuses : T → Bool) (result : Result T RunError) : Type 0 where
  pub ok : IfOk result (λ x. Happened kept old new (taken before) (taken now) events (refuses x))
  pub stopped : OnErr result (StoppedIn kept old new (taken before) (taken now) events)
  pub servers : KeepsServers kept old new
  pub cause : IfErr result (PartHasCause kept old new (faults before) (faults now))
  pub counts : faults before ≤ faults now

-- What a call does to its output that writes a line: at Ok this took it whole, and the value is known; at an error it took a
-- prefix of it, and either it failed or memory ran out.
pub record WritesLine {O T : Type 0} (taken : O → Option (List ℕ)) (faults : O → ℕ) (before now : O) (line : List ℕ) (answer : T) (result : Result T RunError) : Type 0 where
  pub ok : IfOk result (λ x. (x ≡ answer) × Takes (taken before) (taken now) line)
  pub stopped : OnErr result (TakesPrefix (taken before) (taken now) line)
  pub cause : IfErr result (IsOfOutput (faults before) (faults now))
  pub counts : faults before ≤ faults now

-- The same of the line of a refusal.
pub record WritesRefusal {O T : Type 0} (taken : O → Option (List ℕ)) (faults : O → ℕ) (before now : O) (refusal : Refusal) (answer : T) (result : Result T RunError) : Type 0 where
  pub line : WritesLine taken faults before now (lines_of (refused refusal)) answer result
