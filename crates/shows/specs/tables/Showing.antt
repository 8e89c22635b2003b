-- Why rows weren't all shown.
use Rattle.std.specs.Prelude.{◌≡◌, ℕ}
use Rattle.repl_types.specs.declared.area.Area.{Area}
use Rattle.repl_types.specs.declared.status.DamageCause.{DamageCause}
use Rattle.repl_types.specs.declared.call_errors.ShowError.{ShowError}
use Rattle.repl_types.specs.declared.call_errors.ShowError.TheVariants as errors
use Rattle.repl_types.specs.declared.fault.Fault.TheVariants as faults
use Rattle.keep_core.specs.Kept.{Kept}
use Rattle.keep_core.specs.Revealed.{Rises}
use Rattle.site_store.specs.declared.sites.Sites.{Sites}
use Rattle.site_store.specs.Calls.{Bounds, Stays, Fails}

-- a line wasn't written whole: memory ran out, or the output failed, of which these are the counts of faults
abbrev pub IsOutputFault : ℕ → ℕ → ShowError → Type 0
IsOutputFault before now (errors.Fault e) = e ≡ faults.Memory
IsOutputFault before now errors.Output = Rises before now

-- a call at the servers failed, which this damage explains if it is damage, or the output did, of which these
-- are the counts of faults, and then the servers are as they were
abbrev pub FailsShowing : {K : Type 0} → (K → Kept) → Sites K → Sites K → Bounds → (ℕ → Area → DamageCause → Type 0) → ℕ → ℕ → ShowError → Type 0
FailsShowing kept old new most damage before now (errors.Fault e) = Fails kept old new most damage e
FailsShowing kept old new most damage before now errors.Output = Rises before now × Stays kept old new most
