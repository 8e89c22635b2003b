use Rattle.std.proofs.Common.{◌≤◌, IfSome}
use Rattle.site_store.specs.Words.{sees, reads_of_one, Stays}
use Rattle.shows.proofs.ShownRows.{HasShown}
use Rattle.shows.proofs.records.show_records.Given as goal

abbrev pub invariant-loop-shown : goal.invariant-loop-shown
invariant-loop-shown g l = record {
  counts : g.O.Sink.faults l.fn.output ≤ g.O.Sink.faults l.output;
  stays : Stays g.K.Keeper.kept l.fn.sites l.sites (reads_of_one l.shown l.server g.R.Stored.AREA);
  upto : IfSome (sees g.K.Keeper.kept l.fn.sites l.server) (HasShown g.R.Key.Key.fits g.R.Key.Key.spelling g.R.Part.fits g.R.Part.spelling g.R.ShownRecord.line g.R.Stored.AREA (g.R.Table.TableNumber.number l.table) l.last l.shown (g.O.Sink.taken l.fn.output) (g.O.Sink.taken l.output));
}
