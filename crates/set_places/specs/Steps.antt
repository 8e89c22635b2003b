-- What one commit of a set's server leaves of all servers and makes of a world, and what may be made of it if the call
-- failed.
use Rattle.std.specs.Prelude.{◌≡◌, ◌⊎◌, ℕ, Some, None, slice_index_or, slice_set}
use Rattle.repl_types.specs.declared.area.Area.{Area}
use Rattle.repl_types.specs.declared.status.DamageCause.{DamageCause}
use Rattle.repl_types.specs.declared.fault.Fault.{Fault}
use Rattle.repl_types.specs.declared.fault.Fault.TheVariants as faults
use Rattle.keep_core.specs.Contents.{Contents}
use Rattle.keep_core.specs.Kept.{Kept}
use Rattle.repl_model.specs.World.{World}
use Rattle.site_store.specs.declared.sites.Sites.{Sites}
use Rattle.site_store.specs.Calls.{Bounds, Passes, Blames, HoldsOrInDoubt}
use Rattle.site_store.specs.Damage.{IsNoDamage}
use Rattle.site_store.specs.Servers.{AllClosed}
use Rattle.site_store.specs.Views.{names, held, work}
use Rattle.world_store.specs.Stands.{Stands}

module _ {K : Type 0} (kept : K → Kept) (old new : Sites K) where
  -- ---- in a world

  -- the servers stand for this world now
  abbrev pub HasBecome : World → Type 0
  HasBecome v = Stands (names old) (held kept new) v

  -- A call failed. The servers stand for the world for which they stood; or if a keeper failed at the commit and this took
  -- place, for the world after it. No damage was found.
  pub record MayHaveBecome (w v : World) (e : Fault) : Type 0 where
    pub stands : HasBecome w ⊎ ((s : ℕ) × (e ≡ faults.Keeper s) × HasBecome v)
    pub undamaged : IsNoDamage e

  -- ---- at the servers

  -- Who is to blame for a call of one commit that failed, and what is held then.
  pub record BlamesUnchanged (damage : ℕ → Area → DamageCause → Type 0) (e : Fault) : Type 0 where
    pub blames : Blames kept old new damage e
    pub holds : HoldsOrInDoubt kept old new e

  module _ (server : ℕ) (step : Contents → Contents → Type 0) where
    -- if one server reveals what it held, it holds what came of that by this step, and the others hold what they held
    abbrev pub HasStepped : Type 0
    HasStepped = (c : Contents) → slice_index_or (held kept old) server None ≡ Some c → (d : Contents) × (held kept new ≡ slice_set (held kept old) server (Some d)) × step c d

    -- One server made this step in one commit, and no transaction is open.
    pub record CommitsStep : Type 0 where
      pub most : Bounds
      pub passes : Passes kept old new most
      pub stepped : HasStepped
      pub closed : AllClosed (work kept new)

    -- This failed: each server holds what it held, or at a fault of the server's keeper the commit took place. No
    -- transaction is open, and somebody is to blame.
    pub record MayCommitStep (damage : ℕ → Area → DamageCause → Type 0) (e : Fault) : Type 0 where
      pub most : Bounds
      pub passes : Passes kept old new most
      pub stepped : (held kept new ≡ held kept old) ⊎ ((e ≡ faults.Keeper server) × HasStepped)
      pub closed : AllClosed (work kept new)
      pub blames : BlamesUnchanged damage e
