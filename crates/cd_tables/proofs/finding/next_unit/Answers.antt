use Rattle.std.proofs.Common.{Some, None, arith}
use Rattle.std.proofs.lemmas.Result.{err_from_is_err_and}
use Rattle.world_store.specs.Words.{Is64, b64, IsUow, uow_spelling}
use Rattle.site_store.specs.Words.{IsNextKey, IsLastKey, reads_of_one, sees, if_seen, next_breaks}
use Rattle.repl_types.specs.declared.area.Area.TheVariants as areas
use Rattle.cd_tables.specs.Finding.{FindsUnit}
use Rattle.cd_tables.specs.StoredRows.{row_rules}
use Rattle.cd_tables.proofs.FoundRows.{finds_unit, finds_no_unit, unit_above}
use Rattle.cd_tables.proofs.finding.next_unit.Goals as goal

pub returns-in_err-next-clause-fault : goal.returns-in_err-next-clause-fault
returns-in_err-next-clause-fault g c =
    let p = err_from_is_err_and c.from_residual.result c.from_residual.ensures.1 in
    rw (p.1, p.2) (next_breaks row_rules g.K.Keeper.kept Is64 b64 IsUow uow_spelling c.args.sites.now c.next.new.self c.args.server areas.Uow 0 (b64 c.args.after) (reads_of_one 1 c.args.server areas.Uow) c.in_err-next.field-0.0 (λ bytes h. h) (λ bytes h. h) c.in_err-next.ensures.fault)

pub returns-in_default-clause-found : goal.returns-in_default-clause-found
returns-in_default-clause-found g c =
    let after = c.args.after in
    if_seen (sees g.K.Keeper.kept c.args.sites.now c.args.server) (λ d. IsLastKey (d areas.Uow 0) (b64 after)) (FindsUnit after None) (λ d last. finds_no_unit after (omega arith) d last) (rw c.in_default.is at c.in_ok-next.ensures.row)

pub returns-clause-found : goal.returns-clause-found
returns-clause-found g c =
    let after = c.args.after in
    let seq = c.in-Some.seq in
    let row = c.in-Some.row in
    let is = rw c.in-Some.is at c.in_ok-next.ensures.rises in
    if_seen (sees g.K.Keeper.kept c.args.sites.now c.args.server) (λ d. IsNextKey (d areas.Uow 0) (b64 after) (b64 seq) (uow_spelling row)) (FindsUnit after (Some c.head_of.result)) (λ d next. finds_unit after (omega arith) d seq row c.head_of.result c.head_of.ensures is.fits is.row.fits next) (rw c.in-Some.is at c.in_ok-next.ensures.row)

pub returns-clause-above : goal.returns-clause-above
returns-clause-above g c =
    let is = rw c.in-Some.is at c.in_ok-next.ensures.rises in
    unit_above c.args.after (omega arith) c.in-Some.seq c.in-Some.row c.head_of.result c.head_of.ensures is
