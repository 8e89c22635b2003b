use Rattle.std.proofs.Common.{take}
use Rattle.site_store.specs.Words.{GoesOn}
use Rattle.source_log.specs.Units.{PutsChanges}
use Rattle.source_log.proofs.units.put_changes.Given as goal

abbrev pub invariant-changes : goal.invariant-changes
invariant-changes g l = GoesOn g.K.Keeper.kept l.fn.sites l.sites l.server (PutsChanges l.last (take l.done l.changes))
