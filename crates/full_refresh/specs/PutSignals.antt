-- What the transaction of a signal makes of the source.
use Rattle.std.specs.Prelude.{◌≡◌, ℕ, Option, Some, None}
use Rattle.repl_types.specs.declared.unit.Unit.{Unit}
use Rattle.repl_types.specs.declared.fault.Fault.{Fault}
use Rattle.keep_core.specs.Contents.{Contents}
use Rattle.keep_core.specs.Kept.{Kept}
use Rattle.repl_records.specs.declared.prune.SyncMark.{SyncMark}
use Rattle.repl_model.specs.World.{Server}
use Rattle.stored_commits.specs.actions.ActedServers.{with_mark}
use Rattle.site_store.specs.declared.sites.Sites.{Sites}
use Rattle.site_store.specs.Calls.{KeepsServers}
use Rattle.site_store.specs.Views.{held, sees}
use Rattle.source_log.specs.Storing.{StoresWhole}
use Rattle.source_log.specs.Units.{AppendsUnit, HasNoRoomFor, ChangesFit, ShowsUnitDamage}
use Rattle.set_places.specs.declared.placed_set.PlacedSet.{PlacedSet}
use Rattle.set_places.specs.Steps.{CommitsStep, MayCommitStep}

-- what follows if these are all tables of a server's log, and the changes of a unit fit there
abbrev pub IfWhole : Option Contents → Unit → Type 0 → Type 0
IfWhole saw unit P = (server : Server) (c : Contents) → saw ≡ Some c → StoresWhole server c → ChangesFit server unit → P

-- a unit was appended, and its seq is the last signal of the set with a number
abbrev pub PutsSignal : ℕ → SyncMark → Unit → ℕ → Contents → Contents → Type 0
PutsSignal number known unit seq c d = (m : Contents) × AppendsUnit unit seq c m × (d ≡ with_mark number (record { mark = known.mark; signal = seq }) m)

-- The log of a server has no room for a unit, and the servers hold what they held.
pub record IsFull {K : Type 0} (kept : K → Kept) (old new : Sites K) (server : ℕ) (unit : Unit) : Type 0 where
  pub keeps : KeepsServers kept old new
  pub same : held kept new ≡ held kept old
  pub none : (c : Contents) → sees kept old server ≡ Some c → HasNoRoomFor unit c

module _ {K : Type 0} (kept : K → Kept) (old new : Sites K) (set : PlacedSet) where
  -- the signal was committed with this seq, or the log has no room for it
  abbrev pub HasPutSignal : SyncMark → Unit → Option ℕ → Type 0
  HasPutSignal known unit None = IsFull kept old new set.source unit
  HasPutSignal known unit (Some seq) = CommitsStep kept old new set.source (PutsSignal set.at_source.number known unit seq)

  -- a call that puts the signal failed
  abbrev pub MayHavePutSignal : SyncMark → Unit → Fault → Type 0
  MayHavePutSignal known unit e = MayCommitStep kept old new set.source (λ c d. (seq : ℕ) × PutsSignal set.at_source.number known unit seq c d) (ShowsUnitDamage kept old set.source unit) e
