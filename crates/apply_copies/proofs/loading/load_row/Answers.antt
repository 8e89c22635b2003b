use Rattle.std.proofs.Common.{◌≤◌, length, sym, subst, arith, Some}
use Rattle.std.proofs.lemmas.Result.{err_from_is_err_and}
use Rattle.world_store.specs.Words.{IsRow, key_spelling, row_spelling, copy_storable}
use Rattle.site_store.specs.Words.{writes_of_one, Sets, no_memory, put_fails, goes_none, goes_as, goes_put}
use Rattle.repl_model.specs.Words.{row_limit, Values, target_row}
use Rattle.repl_types.specs.declared.area.Area.TheVariants as areas
use Rattle.apply_copies.specs.Copying.{LoadsRow}
use Rattle.apply_copies.specs.laws.Values.{target_row_fits, target_row_short}
use Rattle.apply_copies.proofs.CopiedRows.{loads_nothing, loads_one}
use Rattle.apply_copies.proofs.loading.load_row.Goals as goal

pub returns-then-not-is_selected-clause-ok : goal.returns-then-not-is_selected-clause-ok
returns-then-not-is_selected-clause-ok g c = goes_none g.K.Keeper.kept c.args.sites.now c.args.target (LoadsRow c.args.number c.args.member.now c.args.key.now c.args.row.now 0) c.requires.open (λ d. loads_nothing c.args.number c.args.member.now c.args.key.now c.args.row.now d c.if-not-is_selected.ensures)

pub returns-in_err-target_row-clause-fault : goal.returns-in_err-target_row-clause-fault
returns-in_err-target_row-clause-fault g c =
    let p = err_from_is_err_and c.from_residual.result c.from_residual.ensures.1 in
    rw (p.1, p.2) (no_memory g.K.Keeper.kept c.args.sites.now (λ s a cause. ⊥))

pub put-requires-clause-value : goal.put-requires-clause-value
put-requires-clause-value g c =
    let fits : IsRow c.in_ok-target_row.field-0 = subst IsRow (sym c.in_ok-target_row.ensures) (target_row_fits c.args.row.now c.requires.row.1 c.args.member.now c.requires.member.fits) in
    let short : length (target_row c.args.member.now c.args.row.now) ≤ row_limit = omega (arith, target_row_short c.args.row.now c.requires.row.1 c.args.member.now, c.requires.member.narrow) in
    copy_storable (record { row = c.in_ok-target_row.field-0 }) fits (subst (λ (r : Values). length r ≤ row_limit) (sym c.in_ok-target_row.ensures) short)

pub returns-in_err-put-clause-fault : goal.returns-in_err-put-clause-fault
returns-in_err-put-clause-fault g c =
    let p = err_from_is_err_and c.from_residual-in_err-put.result c.from_residual-in_err-put.ensures.1 in
    rw (p.1, p.2) (put_fails g.K.Keeper.kept c.args.sites.now c.put.new.self c.args.target (writes_of_one 1 c.args.target areas.Target) c.in_err-put.field-0.0 c.in_err-put.ensures.fault)

pub returns-clause-ok : goal.returns-clause-ok
returns-clause-ok g c =
    let kept = g.K.Keeper.kept in
    let target = c.args.target in
    let number = c.args.number in
    let key = c.args.key.now in
    let copy = c.in_ok-target_row.field-0 in
    goes_as kept c.args.sites.now c.put.new.self target (Sets areas.Target number (key_spelling key) (Some (row_spelling copy))) (LoadsRow number c.args.member.now key c.args.row.now 1) c.requires.open (goes_put kept c.args.sites.now c.put.new.self target areas.Target number (key_spelling key) (Some (row_spelling copy)) c.in_ok-put.ensures.ok) (λ d e put. loads_one number c.args.member.now key c.args.row.now copy d e c.if-not-is_selected.ensures c.requires.key.fits c.requires.row c.requires.member c.in_ok-target_row.ensures put)
