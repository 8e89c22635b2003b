use Rattle.std.proofs.Common.{sym, ◌∙◌}
use Rattle.std.proofs.lemmas.Result.{err_from_is_err_and}
use Rattle.site_store.specs.Words.{no_memory, goes_none, goes_as}
use Rattle.stored_commits.specs.units.StoredChanges.{with_change_rows, with_rows_of}
use Rattle.cd_tables.specs.Appending.{Becomes}
use Rattle.cd_tables.proofs.PutRows.{captures_nothing, captures_rows}
use Rattle.cd_tables.proofs.changes.put_rows_of.Goals as goal

pub returns-in_err-rows-clause-fault : goal.returns-in_err-rows-clause-fault
returns-in_err-rows-clause-fault g c =
    let p = err_from_is_err_and c.from_residual.result c.from_residual.ensures.1 in
    rw (p.1, p.2) (no_memory g.K.Keeper.kept c.args.sites.now (λ s a cause. ⊥))

pub returns-then-not-is_captured-clause-ok : goal.returns-then-not-is_captured-clause-ok
returns-then-not-is_captured-clause-ok g c =
    let seq = c.args.seq in
    let placed = c.args.placed.now in
    let reg = c.args.reg.now in
    let state = c.args.state.now in
    goes_none g.K.Keeper.kept c.args.sites.now c.args.server (Becomes (with_rows_of seq placed reg state)) c.requires.open (λ d. captures_nothing seq placed reg state d (sym c.is_captured.ensures ∙ c.if-not-is_captured.true))

pub returns-clause-ok : goal.returns-clause-ok
returns-clause-ok g c =
    let seq = c.args.seq in
    let placed = c.args.placed.now in
    let reg = c.args.reg.now in
    let state = c.args.state.now in
    let rows = c.in_ok-rows.rows in
    goes_as g.K.Keeper.kept c.args.sites.now c.put_change_rows.new.sites c.args.server (Becomes (with_change_rows reg.number rows)) (Becomes (with_rows_of seq placed reg state)) c.requires.open c.in_ok-put_change_rows.ensures.ok (λ d e now. captures_rows seq placed reg state rows d e (sym c.is_captured.ensures ∙ c.if-not-is_captured.false) c.in_ok-rows.ensures.rows now)
