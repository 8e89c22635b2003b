use Rattle.std.proofs.lemmas.Result.{err_from_is_err_and}
use Rattle.site_store.specs.Words.{no_memory, write_fails_on, goes_then}
use Rattle.apply_copies.specs.Changing.{source_as, RemovesBefore, TakesRow}
use Rattle.apply_copies.specs.Copying.{LoadsRow}
use Rattle.apply_copies.proofs.TakenRows.{takes_update}
use Rattle.apply_copies.proofs.changing.update_row.Goals as goal

pub returns-in_err-before-clause-fault : goal.returns-in_err-before-clause-fault
returns-in_err-before-clause-fault g c =
    let p = err_from_is_err_and c.from_residual.result c.from_residual.ensures.1 in
    rw (p.1, p.2) (no_memory g.K.Keeper.kept c.args.sites.now (λ s a cause. ⊥))

pub returns-in_err-load_row-clause-fault : goal.returns-in_err-load_row-clause-fault
returns-in_err-load_row-clause-fault g c =
    let p = err_from_is_err_and c.from_residual-in_err-load_row.result c.from_residual-in_err-load_row.ensures.1 in
    let R = RemovesBefore c.args.number c.args.member.now c.in_ok-before.before c.args.key.now c.args.row.now in
    rw (p.1, p.2) (write_fails_on g.K.Keeper.kept c.args.sites.now c.remove_before.new.sites c.load_row.new.sites c.args.target R c.in_err-load_row.field-0.0 c.in_ok-remove_before.ensures.ok c.in_err-load_row.ensures.fault)

pub returns-clause-ok : goal.returns-clause-ok
returns-clause-ok g c =
    let number = c.args.number in
    let member = c.args.member.now in
    let change = c.args.change.now in
    let source = source_as c.args.source.now in
    let before = c.in_ok-before.before in
    let key = c.args.key.now in
    let row = c.args.row.now in
    let put = c.in_ok-load_row.field-0 in
    goes_then g.K.Keeper.kept c.args.sites.now c.remove_before.new.sites c.load_row.new.sites c.args.target (RemovesBefore number member before key row) (LoadsRow number member key row put) (TakesRow number source member change) c.requires.open c.in_ok-remove_before.ensures.ok c.in_ok-load_row.ensures.ok (λ d e f removes loads. takes_update number source member change before key row put d e f c.requires.op c.in_ok-before.ensures c.requires.own c.requires.image removes loads)
