use Rattle.std.proofs.Common.{◌≡◌, ◌-◌, ◌<◌}
use Rattle.site_store.specs.Words.{held}
use Rattle.capture_core.specs.Capturing.{HoldsElsewhere}
use Rattle.capture_core.specs.LogReads.{ReadsEachOnce}
use Rattle.capture_core.proofs.UnderWay.{IsUnderWay}
use Rattle.capture_core.proofs.capturing.capture_units.Given as goal

abbrev pub invariant-units : goal.invariant-units
invariant-units g l = record {
  way : IsUnderWay g.K.Keeper.kept l.fn.sites l.server l.every l.most l.sites l.progress;
  each : ReadsEachOnce g.K.Keeper.kept l.fn.sites l.sites l.server l.initial.progress l.progress;
  batch : l.progress.waiting < l.every;
  idle : l.progress.units ≡ 0 → (held g.K.Keeper.kept l.sites ≡ held g.K.Keeper.kept l.fn.sites) × (l.progress.waiting ≡ 0);
  apart : HoldsElsewhere g.K.Keeper.kept l.fn.sites l.sites l.server;
}

abbrev pub decreases-units : goal.decreases-units
decreases-units g l = l.most - l.progress.units
