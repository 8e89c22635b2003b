use Rattle.std.proofs.Common.{None, inl, inr, refl, Some}
use Rattle.std.proofs.lemmas.Result.{err_from_is_err_and}
use Rattle.world_store.specs.Words.{IsChangeRow, change_row_spelling, IsChangeKey, change_key_spelling}
use Rattle.site_store.specs.Words.{Contents, IsNextKey, IsLastKey, reads_of_one, writes_of_one, after_key, Sets, next_breaks, write_breaks_after, put_fails, goes_saw, goes_put, saw_then}
use Rattle.repl_types.specs.declared.area.Area.TheVariants as areas
use Rattle.cd_tables.specs.Dropping.{DropsNext}
use Rattle.cd_tables.specs.StoredRows.{row_rules}
use Rattle.cd_tables.proofs.dropping.drop_next.Goals as goal

pub returns-in_err-row-clause-fault : goal.returns-in_err-row-clause-fault
returns-in_err-row-clause-fault g c =
    let p = err_from_is_err_and c.from_residual.result c.from_residual.ensures.1 in
    rw (p.1, p.2) (next_breaks row_rules g.K.Keeper.kept IsChangeKey change_key_spelling IsChangeRow change_row_spelling c.args.sites.now c.next.new.self c.args.server areas.Cd c.args.reg (after_key change_key_spelling c.args.last) (reads_of_one 1 c.args.server areas.Cd) c.in_err-row.field-0.0 (λ bytes h. h) (λ bytes h. h) (rw c.as_ref.ensures.value at c.in_err-row.ensures.fault))

pub returns-in_default-clause-ok : goal.returns-in_default-clause-ok
returns-in_default-clause-ok g c =
    let after = after_key change_key_spelling c.args.last in
    goes_saw g.K.Keeper.kept c.args.sites.now c.next.new.self c.args.server (λ d. IsLastKey (d areas.Cd c.args.reg) after) (DropsNext c.args.reg c.args.floor after None) c.requires.open (record { most = reads_of_one 1 c.args.server areas.Cd; stays = c.in_ok-row.ensures.ok.stays }) (rw (c.in_default.is, c.as_ref.ensures.value) at c.in_ok-row.ensures.row) (λ d last. (refl, inl last))

pub returns-then-floor-key-clause-ok : goal.returns-then-floor-key-clause-ok
returns-then-floor-key-clause-ok g c =
    let after = after_key change_key_spelling c.args.last in
    let key = c.in-Some.key in
    let row = c.in-Some._row in
    let is = rw (c.in-Some.is, c.as_ref.ensures.value) at c.in_ok-row.ensures.rises in
    goes_saw g.K.Keeper.kept c.args.sites.now c.next.new.self c.args.server (λ d. IsNextKey (d areas.Cd c.args.reg) after (change_key_spelling key) (change_row_spelling row)) (DropsNext c.args.reg c.args.floor after None) c.requires.open (record { most = reads_of_one 1 c.args.server areas.Cd; stays = c.in_ok-row.ensures.ok.stays }) (rw (c.in-Some.is, c.as_ref.ensures.value) at c.in_ok-row.ensures.row) (λ d next. (refl, inr (key, row, record { key_fits = is.fits; fits = is.row.fits; next = next }, c.if-floor-key.true)))

pub returns-in_err-remove-clause-fault : goal.returns-in_err-remove-clause-fault
returns-in_err-remove-clause-fault g c =
    let p = err_from_is_err_and c.from_residual-in_err-remove.result c.from_residual-in_err-remove.ensures.1 in
    rw (p.1, p.2) (write_breaks_after row_rules g.K.Keeper.kept c.args.sites.now c.next.new.self c.remove.new.self c.args.server c.in_err-remove.field-0.0 (record { most = reads_of_one 1 c.args.server areas.Cd; stays = c.in_ok-row.ensures.ok.stays }) (put_fails g.K.Keeper.kept c.next.new.self c.remove.new.self c.args.server (writes_of_one 1 c.args.server areas.Cd) c.in_err-remove.field-0.0 c.in_err-remove.ensures.fault))

pub returns-clause-ok : goal.returns-clause-ok
returns-clause-ok g c =
    let kept = g.K.Keeper.kept in
    let server = c.args.server in
    let reg = c.args.reg in
    let after = after_key change_key_spelling c.args.last in
    let key = c.in-Some.key in
    let row = c.in-Some._row in
    let is = rw (c.in-Some.is, c.as_ref.ensures.value) at c.in_ok-row.ensures.rises in
    saw_then kept c.args.sites.now c.next.new.self c.remove.new.self server (λ (d : Contents). IsNextKey (d areas.Cd reg) after (change_key_spelling key) (change_row_spelling row)) (Sets areas.Cd reg (change_key_spelling key) None) (DropsNext reg c.args.floor after (Some key)) c.requires.open (record { most = reads_of_one 1 server areas.Cd; stays = c.in_ok-row.ensures.ok.stays }) (rw (c.in-Some.is, c.as_ref.ensures.value) at c.in_ok-row.ensures.row) (goes_put kept c.next.new.self c.remove.new.self server areas.Cd reg (change_key_spelling key) None c.in_ok-remove.ensures.ok) (λ d e next sets. (sets, (row, record { key_fits = is.fits; fits = is.row.fits; next = next })))
