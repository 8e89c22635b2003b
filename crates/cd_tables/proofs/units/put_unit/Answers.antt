use Rattle.std.proofs.Common.{Some}
use Rattle.std.proofs.lemmas.Result.{err_from_is_err_and}
use Rattle.world_store.specs.Words.{b64, uow_spelling}
use Rattle.site_store.specs.Words.{Sets, no_memory, goes_as, goes_put}
use Rattle.repl_types.specs.declared.area.Area.TheVariants as areas
use Rattle.stored_commits.specs.units.StoredChanges.{with_uow_row}
use Rattle.cd_tables.specs.Appending.{Becomes}
use Rattle.cd_tables.proofs.Shown.{becomes_unit}
use Rattle.cd_tables.proofs.units.put_unit.Goals as goal

pub returns-in_err-row-clause-fault : goal.returns-in_err-row-clause-fault
returns-in_err-row-clause-fault g c =
    let p = err_from_is_err_and c.from_residual.result c.from_residual.ensures.1 in
    rw (p.1, p.2) (no_memory g.K.Keeper.kept c.args.sites.now (λ s a cause. ⊥))

pub returns-clause-ok : goal.returns-clause-ok
returns-clause-ok g c =
    let kept = g.K.Keeper.kept in
    let head = c.args.head.now in
    let key = b64 head.seq in
    let row = c.in_ok-row.row in
    goes_as kept c.args.sites.now c.put.new.self c.args.server (Sets areas.Uow 0 key (Some (uow_spelling row))) (Becomes (with_uow_row head)) c.requires.open (goes_put kept c.args.sites.now c.put.new.self c.args.server areas.Uow 0 key (Some (uow_spelling row)) c.in_ok-put.ensures.ok) (λ d e sets. becomes_unit head row d e c.in_ok-row.ensures sets)
