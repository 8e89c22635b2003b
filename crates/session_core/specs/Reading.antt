-- The parts of a run that read its input.
use Rattle.std.specs.Prelude.{◌≡◌, ◌≤◌, ℕ, Bool, List, Option, Result, IfOk, IfErr, OnErr}
use Rattle.keep_core.specs.Kept.{Kept}
use Rattle.repl_model.specs.World.{World}
use Rattle.run_core.specs.Runs.{Event, Went, Stopped, is_refused}
use Rattle.site_store.specs.Calls.{KeepsServers}
use Rattle.site_store.specs.Views.{names, held}
use Rattle.site_store.specs.declared.sites.Sites.{Sites}
use Rattle.world_store.specs.Stands.{Stands}
use Rattle.run_commands.specs.parts.Causes.{BlamesServers, HasEnded}
use Rattle.run_commands.specs.parts.ExitStatus.{status_of_error}
use Rattle.run_commands.specs.declared.parts.run_error.RunError.{RunError}
use Rattle.session_core.specs.Inputs.{OfInput}

module _ {K : Type 0} (kept : K → Kept) (old new : Sites K) (input before now : Option (List ℕ)) (events : List ℕ → World → List (Event World)) where
  -- All of this happened at what was read, from each world that the servers stood for, and the answer says whether something
  -- was refused.
  abbrev pub ReadsAll : Bool → Type 0
  ReadsAll refused = (w : World) → Stands (names old) (held kept old) w → OfInput input (λ bytes. Went (Stands (names old)) (events bytes w) w (held kept new) before now × (refused ≡ is_refused (events bytes w)))

  -- Some of it happened, from its beginning on.
  abbrev pub StopsReading : Type 0
  StopsReading = (w : World) → Stands (names old) (held kept old) w → OfInput input (λ bytes. Stopped (Stands (names old)) (events bytes w) w (held kept new) before now)

-- What a part of a run does that reads the input to its end, from what the servers, the input and the output were to what
-- they are, and what its result says of it: at Ok all events of the input happened, and the value says whether something
-- was refused; at an error some of them did, and it has a cause.
pub record IsReading {K I O : Type 0} (kept : K → Kept) (left : I → Option (List ℕ)) (in_faults : I → ℕ) (taken : O → Option (List ℕ)) (faults : O → ℕ) (old new : Sites K) (first last : I) (before now : O) (events : List ℕ → World → List (Event World)) (result : Result Bool RunError) : Type 0 where
  pub ok : IfOk result (ReadsAll kept old new (left first) (taken before) (taken now) events)
  pub stopped : OnErr result (StopsReading kept old new (left first) (taken before) (taken now) events)
  pub ended : HasEnded (left first) (left last) (in_faults first) (in_faults last) (faults before) (faults now) result
  pub servers : KeepsServers kept old new
  pub cause : IfErr result (λ e. BlamesServers kept old new (status_of_error e))
  pub counts : faults before ≤ faults now
