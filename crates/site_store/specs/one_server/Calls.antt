-- What calls at one server do, and why one fails, however often they read and write.
use Rattle.std.specs.Prelude.{◌≡◌, ℕ}
use Rattle.repl_types.specs.declared.area.Area.{Area}
use Rattle.repl_types.specs.declared.status.DamageCause.{DamageCause}
use Rattle.repl_types.specs.declared.fault.Fault.{Fault}
use Rattle.keep_core.specs.Contents.{Contents}
use Rattle.keep_core.specs.Kept.{Kept}
use Rattle.site_store.specs.declared.sites.Sites.{Sites}
use Rattle.site_store.specs.Views.{held}
use Rattle.site_store.specs.Calls.{Bounds, Passes, Stays, Blames}
use Rattle.site_store.specs.Damage.{Rules, Damages}
use Rattle.site_store.specs.Steps.{WorksOn}

-- The servers hold the same, and their open transactions see the same.
pub record Looks {K : Type 0} (kept : K → Kept) (old new : Sites K) : Type 0 where
  pub most : Bounds
  pub stays : Stays kept old new most

-- The server's open transaction went on by this step, and every server holds what it held.
pub record GoesOn {K : Type 0} (kept : K → Kept) (old new : Sites K) (server : ℕ) (step : Contents → Contents → Type 0) : Type 0 where
  pub most : Bounds
  pub works : WorksOn kept old new server most step

-- A call failed: each server holds what it held, and somebody is to blame. A transaction may be open.
pub record Stops {K : Type 0} (kept : K → Kept) (old new : Sites K) (damage : ℕ → Area → DamageCause → Type 0) (e : Fault) : Type 0 where
  pub most : Bounds
  pub passes : Passes kept old new most
  pub held : held kept new ≡ held kept old
  pub blames : Blames kept old new damage e

-- a call that reads one server failed: if damage is reported, what that server was seen to have shows it by these rules
abbrev pub Breaks : {K : Type 0} → Rules → (K → Kept) → Sites K → Sites K → ℕ → Fault → Type 0
Breaks rules kept old new server e = Stops kept old new (Damages (λ s. s ≡ server) rules kept old) e

-- a call that only writes failed, so nothing shows damage
abbrev pub FailsToWrite : {K : Type 0} → (K → Kept) → Sites K → Sites K → Fault → Type 0
FailsToWrite kept old new e = Stops kept old new (λ s a cause. ⊥) e
