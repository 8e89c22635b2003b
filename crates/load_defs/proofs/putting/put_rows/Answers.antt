use Rattle.std.proofs.Common.{subst}
use Rattle.std.specs.List.{AllByRecursion}
use Rattle.std.proofs.lemmas.List.{drop_more}
use Rattle.std.proofs.lemmas.Result.{err_from_is_err_and}
use Rattle.load_defs.specs.Putting.{MayBePut}
use Rattle.load_defs.proofs.Puts.{puts_start, puts_on, puts_fail, puts_all}
use Rattle.load_defs.proofs.putting.put_rows.Goals as goal

pub rows-init : goal.rows-init
rows-init g c = record {
  works = puts_start g.R.Key.Key.spelling g.R.Part.spelling g.R.Stored.AREA (g.R.Table.TableNumber.number c.args.table) c.args.rows.now g.K.Keeper.kept c.args.sites.now c.args.server c.requires.open;
  may = c.requires.rows;
}

pub returns-in_err-put-clause-fault : goal.returns-in_err-put-clause-fault
returns-in_err-put-clause-fault g c =
    let p = err_from_is_err_and c.from_residual.result c.from_residual.ensures.1 in
    rw (p.1, p.2) (puts_fail g.R.Key.Key.spelling g.R.Part.spelling g.R.Stored.AREA (g.R.Table.TableNumber.number c.args.table) c.args.rows.now g.K.Keeper.kept c.args.sites.now c.args.server c.requires.open c.rows.sites c.put.new.self c.rows.key-index c.rows.invariant.works c.in_err-put.field-0.0 c.rows-test.true c.in_err-put.ensures.fault)

pub rows-preserved : goal.rows-preserved
rows-preserved g c = record {
  works = puts_on g.R.Key.Key.spelling g.R.Part.spelling g.R.Stored.AREA (g.R.Table.TableNumber.number c.args.table) c.args.rows.now g.K.Keeper.kept c.args.sites.now c.args.server c.requires.open c.rows.sites c.put.new.self c.rows.key-index c.rows.invariant.works c.rows-item.result c.rows-test.true c.rows-item.is c.in_ok-put.ensures.ok;
  may = (subst (AllByRecursion (MayBePut g.R.Key.Key.storable g.R.Stored.storable)) (drop_more c.args.rows.now c.rows.key-index c.rows-item.result c.rows-test.true) c.rows.invariant.may).1;
}

pub returns-clause-ok : goal.returns-clause-ok
returns-clause-ok g c = puts_all g.R.Key.Key.spelling g.R.Part.spelling g.R.Stored.AREA (g.R.Table.TableNumber.number c.args.table) c.args.rows.now g.K.Keeper.kept c.args.sites.now c.args.server c.requires.open c.rows.sites c.rows.key-index c.rows-test.false c.rows.auto.key-index-end c.rows.invariant.works
