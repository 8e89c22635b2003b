use Rattle.std.proofs.Common.{◌≡◌, take, drop}
use Rattle.std.specs.List.{AllByRecursion}
use Rattle.site_store.specs.Words.{writes_of_one, WorksOn}
use Rattle.load_defs.specs.Putting.{MayBePut, with_put}
use Rattle.load_defs.proofs.putting.put_rows.Given as goal

abbrev pub invariant-rows : goal.invariant-rows
invariant-rows g l = record {
  works : WorksOn g.K.Keeper.kept l.fn.sites l.sites l.server (writes_of_one l.key-index l.server g.R.Stored.AREA) (λ c d. d ≡ with_put g.R.Key.Key.spelling g.R.Part.spelling g.R.Stored.AREA (g.R.Table.TableNumber.number l.table) (take l.key-index l.rows) c);
  may : AllByRecursion (MayBePut g.R.Key.Key.storable g.R.Stored.storable) (drop l.key-index l.rows);
}
