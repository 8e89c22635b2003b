use Rattle.std.proofs.Common.{◌≡◌, Some, arith}
use Rattle.std.proofs.lemmas.Result.{err_from_is_err_and}
use Rattle.world_store.specs.Words.{b64, uow_spelling}
use Rattle.site_store.specs.Words.{Contents, reads_of_one, writes_of_one, Sets, write_breaks_after, put_fails, goes_put, saw_then}
use Rattle.repl_types.specs.declared.area.Area.TheVariants as areas
use Rattle.cd_tables.specs.Dropping.{with_code, SetsCode}
use Rattle.cd_tables.specs.StoredRows.{row_rules}
use Rattle.cd_tables.proofs.ShownCodes.{sets_code, unit_breaks}
use Rattle.cd_tables.proofs.dropping.set_code.Goals as goal

pub returns-in_err-row-clause-fault : goal.returns-in_err-row-clause-fault
returns-in_err-row-clause-fault g c =
    let p = err_from_is_err_and c.from_residual.result c.from_residual.ensures.1 in
    rw (p.1, p.2) (unit_breaks g.K.Keeper.kept c.args.sites.now c.get_needed.new.self c.args.server c.args.seq (reads_of_one 1 c.args.server areas.Uow) c.in_err-row.field-0.0 c.requires.unit c.in_err-row.ensures.fault)

pub returns-in_err-put-clause-fault : goal.returns-in_err-put-clause-fault
returns-in_err-put-clause-fault g c =
    let p = err_from_is_err_and c.from_residual-in_err-put.result c.from_residual-in_err-put.ensures.1 in
    rw (p.1, p.2) (write_breaks_after row_rules g.K.Keeper.kept c.args.sites.now c.get_needed.new.self c.put.new.self c.args.server c.in_err-put.field-0.0 (record { most = reads_of_one 1 c.args.server areas.Uow; stays = c.in_ok-row.ensures.ok.stays }) (put_fails g.K.Keeper.kept c.get_needed.new.self c.put.new.self c.args.server (writes_of_one 1 c.args.server areas.Uow) c.in_err-put.field-0.0 c.in_err-put.ensures.fault))

pub returns-clause-ok : goal.returns-clause-ok
returns-clause-ok g c =
    let kept = g.K.Keeper.kept in
    let server = c.args.server in
    let seq = c.args.seq in
    let code = c.args.code in
    let row = c.in_ok-row.row in
    let new = Some (uow_spelling (with_code code row)) in
    saw_then kept c.args.sites.now c.get_needed.new.self c.put.new.self server (λ (d : Contents). d areas.Uow 0 (b64 seq) ≡ Some (uow_spelling row)) (Sets areas.Uow 0 (b64 seq) new) (SetsCode seq code) c.requires.open (record { most = reads_of_one 1 server areas.Uow; stays = c.in_ok-row.ensures.ok.stays }) c.in_ok-row.ensures.row (goes_put kept c.get_needed.new.self c.put.new.self server areas.Uow 0 (b64 seq) new c.in_ok-put.ensures.ok) (λ d e had sets. sets_code seq code (omega arith) row c.in_ok-row.ensures.fits.fits c.requires.code d e had sets)
