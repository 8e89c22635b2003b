-- How a capture begins, and what its commits leave of the servers.
use Rattle.std.specs.Prelude.{◌≡◌, ◌≢◌, ◌⊎◌, ℕ, ◌-◌, [], Option, Some, None, slice_index_or, slice_set}
use Rattle.repl_types.specs.declared.area.Area.TheVariants as areas
use Rattle.repl_types.specs.declared.fault.Fault.{Fault}
use Rattle.repl_types.specs.declared.fault.Fault.TheVariants as faults
use Rattle.keep_core.specs.Contents.{Contents, put_at}
use Rattle.keep_core.specs.Kept.{Kept}
use Rattle.repl_records.specs.FirstStates.{first_capture}
use Rattle.repl_records.specs.RecordKeys.{single_spelling}
use Rattle.repl_records.specs.Capture.{IsCapture, capture_spelling}
use Rattle.repl_records.specs.declared.capture.CaptureState.{CaptureState}
use Rattle.site_store.specs.declared.sites.Sites.{Sites}
use Rattle.site_store.specs.Records.{StateIs}
use Rattle.site_store.specs.Views.{held, work, sees}
use Rattle.site_store.specs.Calls.{Bounds, Passes, Commits, Blames}
use Rattle.site_store.specs.one_server.Calls.{GoesOn}
use Rattle.txn_buffer.specs.Buffer.{changes_in}
use Rattle.capture_core.specs.declared.progress.Progress.{Progress}

-- ---- the beginning

-- Nothing is read, nothing is in flight, and no unit is taken.
pub record IsStart (p : Progress) : Type 0 where
  pub fits : IsCapture p.state
  pub read : p.read ≡ p.state.restart - 1
  pub empty : (tx : ℕ) → changes_in p.buffer tx ≡ []
  pub units : p.units ≡ 0
  pub rows : p.rows ≡ 0
  pub waiting : p.waiting ≡ 0

-- the contents say how far the server is captured
abbrev pub StateIn : CaptureState → Contents → Type 0
StateIn state c = StateIs capture_spelling areas.Capture 0 (single_spelling (record {})) first_capture state c

-- ---- one transaction

-- the server's transaction is the only one that is open, and sees what came by this step of what the server holds
pub record IsWorking {K : Type 0} (kept : K → Kept) (sites : Sites K) (server : ℕ) (step : Contents → Contents → Type 0) : Type 0 where
  pub now : Option Contents
  pub is : slice_index_or (work kept sites) server None ≡ Some now
  pub others : (q : ℕ) → q ≢ server → slice_index_or (work kept sites) q None ≡ None
  pub does : (c : Contents) → slice_index_or (held kept sites) server None ≡ Some c → (d : Contents) × (now ≡ Some d) × step c d

-- Such a transaction was opened, and the servers hold what they held.
pub record Opens {K : Type 0} (kept : K → Kept) (old new : Sites K) (server : ℕ) (step : Contents → Contents → Type 0) : Type 0 where
  pub most : Bounds
  pub passes : Passes kept old new most
  pub held : held kept new ≡ held kept old
  pub working : IsWorking kept new server step

-- how far the server is captured was read in it
abbrev pub ReadsState : CaptureState → Contents → Contents → Type 0
ReadsState state c d = (d ≡ c) × StateIn state d

-- ---- a commit

-- how far the server is captured is put
abbrev pub PutsState : CaptureState → Contents → Contents → Type 0
PutsState state c d = d ≡ put_at c areas.Capture 0 (single_spelling (record {})) (Some (capture_spelling state))

module _ {K : Type 0} (kept : K → Kept) (old new : Sites K) (server : ℕ) (state : CaptureState) where
  -- The server holds what its transaction saw and how far it is captured, and has none open.
  pub record CommitsUnits : Type 0 where
    pub before : Sites K
    pub puts : GoesOn kept old before server (PutsState state)
    pub commits : Commits kept before new server

  -- A commit of this failed but took place.
  pub record TookUnits : Type 0 where
    pub before : Sites K
    pub puts : GoesOn kept old before server (PutsState state)
    pub held : held kept new ≡ slice_set (held kept before) server (sees kept before server)

  -- A commit of this failed: each server holds what it held, or at a fault of the server's keeper the commit took place.
  pub record MayCommitUnits (e : Fault) : Type 0 where
    pub most : Bounds
    pub passes : Passes kept old new most
    pub held : (held kept new ≡ held kept old) ⊎ ((e ≡ faults.Keeper server) × TookUnits)
    pub blames : Blames kept old new (λ s a cause. ⊥) e
