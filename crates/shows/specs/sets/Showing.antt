-- Why a reply wasn't written whole.
use Rattle.std.specs.Prelude.{ℕ}
use Rattle.repl_types.specs.declared.area.Area.{Area}
use Rattle.repl_types.specs.declared.status.DamageCause.{DamageCause}
use Rattle.repl_types.specs.declared.call_errors.ShowError.{ShowError}
use Rattle.repl_types.specs.declared.call_errors.ShowError.TheVariants as errors
use Rattle.keep_core.specs.Kept.{Kept}
use Rattle.keep_core.specs.Revealed.{Rises}
use Rattle.site_store.specs.declared.sites.Sites.{Sites}
use Rattle.site_store.specs.Servers.{AllClosed}
use Rattle.site_store.specs.Views.{work}
use Rattle.site_store.specs.one_server.Calls.{Looks, Stops}

-- A call at the servers failed, which this damage explains if it is damage; or the output did, of which these are the
-- counts of faults, and the servers are as they were.
abbrev pub StopsShowing : {K : Type 0} → (K → Kept) → Sites K → Sites K → (ℕ → Area → DamageCause → Type 0) → ℕ → ℕ → ShowError → Type 0
StopsShowing kept old new damage before now (errors.Fault e) = Stops kept old new damage e
StopsShowing kept old new damage before now errors.Output = Rises before now × Looks kept old new

-- a reply wasn't written whole, and no transaction is open
abbrev pub FailsShowing : {K : Type 0} → (K → Kept) → Sites K → Sites K → (ℕ → Area → DamageCause → Type 0) → ℕ → ℕ → ShowError → Type 0
FailsShowing kept old new damage before now e = StopsShowing kept old new damage before now e × AllClosed (work kept new)
