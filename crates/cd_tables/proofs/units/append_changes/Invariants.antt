use Rattle.std.proofs.Common.{◌*◌, ◌≤◌, take, IfSome}
use Rattle.site_store.specs.Words.{GoesOn}
use Rattle.cd_tables.specs.Known.{IsStated}
use Rattle.cd_tables.specs.Reading.{ReadsNoLog}
use Rattle.cd_tables.proofs.Parts.{CapturesKnowing}
use Rattle.cd_tables.proofs.units.append_changes.Given as goal

abbrev pub invariant-changes : goal.invariant-changes
invariant-changes g l = record {
  reads : ReadsNoLog g.K.Keeper.kept l.fn.sites l.sites;
  few : l.rows ≤ 2 * l.placed-index;
  fits : IfSome l.known IsStated;
  goes : GoesOn g.K.Keeper.kept l.fn.sites l.sites l.server (CapturesKnowing l.unit (take l.placed-index l.placed-items) l.rows l.known);
}
