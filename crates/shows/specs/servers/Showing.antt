-- Why a reply wasn't written whole.
use Rattle.std.specs.Prelude.{ℕ}
use Rattle.repl_types.specs.declared.call_errors.ShowError.{ShowError}
use Rattle.repl_types.specs.declared.call_errors.ShowError.TheVariants as errors
use Rattle.keep_core.specs.Kept.{Kept}
use Rattle.keep_core.specs.Revealed.{Rises}
use Rattle.site_store.specs.declared.sites.Sites.{Sites}
use Rattle.site_store.specs.Calls.{Bounds, Stays, Fails}
use Rattle.site_store.specs.Damage.{IsNoDamage}
use Rattle.shows.specs.servers.Rules.{ShowsDamage}

-- a call at the servers failed, or the output did, of which these are the counts of faults, and then the
-- servers are as they were
abbrev pub FailsToShow : {K : Type 0} → (K → Kept) → Sites K → Sites K → Bounds → ℕ → ℕ → ShowError → Type 0
FailsToShow kept old new most before now (errors.Fault e) = Fails kept old new most (ShowsDamage kept old) e
FailsToShow kept old new most before now errors.Output = Rises before now × Stays kept old new most

-- no damage is reported
abbrev pub IsUndamagedShow : ShowError → Type 0
IsUndamagedShow (errors.Fault e) = IsNoDamage e
IsUndamagedShow errors.Output = Unit {0}
