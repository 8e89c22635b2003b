use Rattle.std.proofs.Common.{◌≡◌, length, IfSome}
use Rattle.std.specs.List.{AllByRecursion}
use Rattle.site_store.specs.Words.{sees, reads_of_one, Stays}
use Rattle.stored_defs.specs.Reading.{AllStand}
use Rattle.stored_defs.proofs.ReadingRows.{HasReadTo}
use Rattle.stored_defs.proofs.reading.read_records.Given as goal

abbrev pub invariant-loop-read : goal.invariant-loop-read
invariant-loop-read g l = record {
  count : length l.records ≡ l._read;
  stays : Stays g.K.Keeper.kept l.fn.sites l.sites (reads_of_one l._read l.server g.R.Stored.AREA);
  stand : IfSome (sees g.K.Keeper.kept l.fn.sites l.server) (AllStand g.R.Part.spelling g.R.Stored.AREA (g.R.Table.TableNumber.number l.table) l.records);
  fit : AllByRecursion g.R.Part.fits l.records;
  read : IfSome (sees g.K.Keeper.kept l.fn.sites l.server) (HasReadTo g.R.Key.Key.fits g.R.Key.Key.spelling g.R.Part.fits g.R.Part.spelling g.R.Stored.AREA (g.R.Table.TableNumber.number l.table) l.last l.records);
}
