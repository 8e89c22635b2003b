use Rattle.std.proofs.Common.{None, refl, Some}
use Rattle.std.proofs.lemmas.Result.{err_from_is_err_and}
use Rattle.world_store.specs.Words.{IsChangeRow, change_row_spelling, IsChangeKey, change_key_spelling}
use Rattle.site_store.specs.Words.{Contents, IsNextKey, IsLastKey, reads_of_one, writes_of_one, after_key, Sets, next_breaks, write_breaks_after, put_fails, goes_saw, goes_put, saw_then}
use Rattle.repl_types.specs.declared.area.Area.TheVariants as areas
use Rattle.cd_tables.specs.Clearing.{ClearsNext}
use Rattle.cd_tables.specs.Rules.{rules}
use Rattle.cd_tables.proofs.clearing.clear_next.Goals as goal

pub returns-in_err-row-clause-fault : goal.returns-in_err-row-clause-fault
returns-in_err-row-clause-fault g c =
    let p = err_from_is_err_and c.from_residual.result c.from_residual.ensures.1 in
    rw (p.1, p.2) (next_breaks rules g.K.Keeper.kept IsChangeKey change_key_spelling IsChangeRow change_row_spelling c.args.sites.now c.next.new.self c.args.server areas.Cd c.args.number (after_key change_key_spelling c.args.last) (reads_of_one 1 c.args.server areas.Cd) c.in_err-row.field-0.0 (λ bytes h. h) (λ bytes h. h) (rw c.as_ref.ensures.value at c.in_err-row.ensures.fault))

pub returns-in_default-clause-ok : goal.returns-in_default-clause-ok
returns-in_default-clause-ok g c =
    let after = after_key change_key_spelling c.args.last in
    goes_saw g.K.Keeper.kept c.args.sites.now c.next.new.self c.args.server (λ d. IsLastKey (d areas.Cd c.args.number) after) (ClearsNext c.args.number after None) c.requires.open (record { most = reads_of_one 1 c.args.server areas.Cd; stays = c.in_ok-row.ensures.ok.stays }) (rw (c.in_default.is, c.as_ref.ensures.value) at c.in_ok-row.ensures.row) (λ d last. (refl, last))

pub returns-in_err-remove-clause-fault : goal.returns-in_err-remove-clause-fault
returns-in_err-remove-clause-fault g c =
    let p = err_from_is_err_and c.from_residual-in_err-remove.result c.from_residual-in_err-remove.ensures.1 in
    rw (p.1, p.2) (write_breaks_after rules g.K.Keeper.kept c.args.sites.now c.next.new.self c.remove.new.self c.args.server c.in_err-remove.field-0.0 (record { most = reads_of_one 1 c.args.server areas.Cd; stays = c.in_ok-row.ensures.ok.stays }) (put_fails g.K.Keeper.kept c.next.new.self c.remove.new.self c.args.server (writes_of_one 1 c.args.server areas.Cd) c.in_err-remove.field-0.0 c.in_err-remove.ensures.fault))

pub returns-clause-ok : goal.returns-clause-ok
returns-clause-ok g c =
    let kept = g.K.Keeper.kept in
    let server = c.args.server in
    let number = c.args.number in
    let after = after_key change_key_spelling c.args.last in
    let key = change_key_spelling c.in-Some.key in
    let N = λ (d : Contents). IsNextKey (d areas.Cd number) after key (change_row_spelling c.in-Some._row) in
    saw_then kept c.args.sites.now c.next.new.self c.remove.new.self server N (Sets areas.Cd number key None) (ClearsNext number after (Some c.in-Some.key)) c.requires.open (record { most = reads_of_one 1 server areas.Cd; stays = c.in_ok-row.ensures.ok.stays }) (rw (c.in-Some.is, c.as_ref.ensures.value) at c.in_ok-row.ensures.row) (goes_put kept c.next.new.self c.remove.new.self server areas.Cd number key None c.in_ok-remove.ensures.ok) (λ d e next sets. (sets, next.least))
