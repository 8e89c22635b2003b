use Rattle.std.proofs.Common.{Some, None}
use Rattle.std.proofs.lemmas.Result.{err_from_is_err_and}
use Rattle.world_store.specs.Words.{IsChangeRow, change_row_spelling, IsChangeKey, change_key_spelling}
use Rattle.site_store.specs.Words.{IsNextKey, IsLastKey, reads_of_one, sees, if_seen, next_breaks}
use Rattle.repl_types.specs.declared.area.Area.TheVariants as areas
use Rattle.cd_tables.specs.Finding.{FindsChange}
use Rattle.cd_tables.specs.StoredRows.{row_rules}
use Rattle.cd_tables.proofs.FoundRows.{finds_change, finds_no_change, finds_last_change, change_from}
use Rattle.cd_tables.proofs.finding.next_change.Goals as goal

pub returns-in_err-next-clause-fault : goal.returns-in_err-next-clause-fault
returns-in_err-next-clause-fault g c =
    let p = err_from_is_err_and c.from_residual.result c.from_residual.ensures.1 in
    rw (p.1, p.2) (next_breaks row_rules g.K.Keeper.kept IsChangeKey change_key_spelling IsChangeRow change_row_spelling c.args.sites.now c.next.new.self c.args.server areas.Cd c.args.reg (change_key_spelling c.args.after) (reads_of_one 1 c.args.server areas.Cd) c.in_err-next.field-0.0 (λ bytes h. h) (λ bytes h. h) c.in_err-next.ensures.fault)

pub returns-in_default-clause-found : goal.returns-in_default-clause-found
returns-in_default-clause-found g c =
    let after = c.args.after in
    let small = c.key_fits.ensures in
    if_seen (sees g.K.Keeper.kept c.args.sites.now c.args.server) (λ d. IsLastKey (d areas.Cd c.args.reg) (change_key_spelling after)) (FindsChange c.args.reg after c.args.upto None) (λ d last. finds_last_change c.args.reg after c.args.upto small d last) (rw c.in_default.is at c.in_ok-next.ensures.row)

pub returns-then-upto-key-clause-found : goal.returns-then-upto-key-clause-found
returns-then-upto-key-clause-found g c =
    let after = c.args.after in
    let small = c.key_fits.ensures in
    let key = c.in-Some.key in
    let row = c.in-Some.row in
    let is = rw c.in-Some.is at c.in_ok-next.ensures.rises in
    if_seen (sees g.K.Keeper.kept c.args.sites.now c.args.server) (λ d. IsNextKey (d areas.Cd c.args.reg) (change_key_spelling after) (change_key_spelling key) (change_row_spelling row)) (FindsChange c.args.reg after c.args.upto None) (λ d next. finds_no_change c.args.reg after c.args.upto small d key row is.fits is.row.fits c.if-upto-key.true next) (rw c.in-Some.is at c.in_ok-next.ensures.row)

pub returns-clause-found : goal.returns-clause-found
returns-clause-found g c =
    let after = c.args.after in
    let small = c.key_fits.ensures in
    let key = c.in-Some.key in
    let row = c.in-Some.row in
    let is = rw c.in-Some.is at c.in_ok-next.ensures.rises in
    if_seen (sees g.K.Keeper.kept c.args.sites.now c.args.server) (λ d. IsNextKey (d areas.Cd c.args.reg) (change_key_spelling after) (change_key_spelling key) (change_row_spelling row)) (FindsChange c.args.reg after c.args.upto (Some c.change_of.result)) (λ d next. finds_change c.args.reg after c.args.upto small d key row c.change_of.result c.change_of.ensures is.fits is.row.fits c.if-upto-key.false next) (rw c.in-Some.is at c.in_ok-next.ensures.row)

pub returns-clause-from : goal.returns-clause-from
returns-clause-from g c =
    let after = c.args.after in
    let small = c.key_fits.ensures in
    change_from after c.args.upto small c.in-Some.key c.in-Some.row c.change_of.result c.change_of.ensures (rw c.in-Some.is at c.in_ok-next.ensures.rises) c.if-upto-key.false
