use Rattle.std.proofs.Common.{◌-◌, ◌^◌, false}
use Rattle.site_store.specs.Words.{GoesOn}
use Rattle.capture_core.specs.LogReads.{ReadsEachOnce}
use Rattle.capture_core.specs.Reading.{KeepsTyped, Counts, ReadsOn}
use Rattle.capture_core.proofs.reading.take_unit.Given as goal

abbrev pub invariant-loop-pos : goal.invariant-loop-pos
invariant-loop-pos g l = record {
  typed : KeepsTyped l.progress;
  counts : Counts false l.fn.progress l.progress;
  each : ReadsEachOnce g.K.Keeper.kept l.fn.sites l.sites l.server l.fn.progress l.progress;
  goes : GoesOn g.K.Keeper.kept l.fn.sites l.sites l.server (ReadsOn l.fn.progress l.progress);
}

abbrev pub decreases-loop-pos : goal.decreases-loop-pos
decreases-loop-pos g l = 2 ^ 64 - l.progress.read
