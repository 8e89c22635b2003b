-- What a step inside a transaction changes.
use Rattle.std.specs.Prelude.{◌≡◌, ◌≢◌, ℕ, false}
use Rattle.repl_types.specs.Area.{same_area}
use Rattle.repl_types.specs.declared.area.Area.{Area}
use Rattle.keep_core.specs.Contents.{Contents}
use Rattle.keep_core.specs.Kept.{Kept}
use Rattle.site_store.specs.declared.sites.Sites.{Sites}
use Rattle.site_store.specs.Views.{held, work}
use Rattle.site_store.specs.Works.{Works}
use Rattle.site_store.specs.Calls.{Bounds, Passes}
use Rattle.site_store.specs.Damage.{Rules, AddsOnlySpelt}

-- All tables but one are as before, and only keys and values of that one were added to it.
pub record ChangesOne (rules : Rules) (a : Area) (t : ℕ) (c d : Contents) : Type 0 where
  pub tables : (u : ℕ) → t ≢ u → d a u ≡ c a u
  pub areas : (b : Area) (u : ℕ) → same_area a b ≡ false → d b u ≡ c b u
  pub adds : AddsOnlySpelt rules c d

-- The server's open transaction went on by this step, within these bounds, and every server holds what it held.
pub record WorksOn {K : Type 0} (kept : K → Kept) (old new : Sites K) (server : ℕ) (most : Bounds) (step : Contents → Contents → Type 0) : Type 0 where
  pub passes : Passes kept old new most
  pub held : held kept new ≡ held kept old
  pub works : Works (work kept old) (work kept new) server step
