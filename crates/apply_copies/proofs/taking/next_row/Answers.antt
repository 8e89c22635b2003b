use Rattle.std.proofs.lemmas.Result.{err_from_is_err_and}
use Rattle.world_store.specs.Words.{IsChangeRow, change_row_spelling, IsChangeKey, change_key_spelling}
use Rattle.site_store.specs.Words.{reads_of_one, next_breaks}
use Rattle.repl_types.specs.declared.area.Area.TheVariants as areas
use Rattle.apply_copies.specs.ChangeRules.{change_source_rules}
use Rattle.apply_copies.proofs.taking.next_row.Goals as goal

pub returns-in_err-next-clause-fault : goal.returns-in_err-next-clause-fault
returns-in_err-next-clause-fault g c =
    let p = err_from_is_err_and c.from_residual.result c.from_residual.ensures.1 in
    rw (p.1, p.2) (next_breaks change_source_rules g.K.Keeper.kept IsChangeKey change_key_spelling IsChangeRow change_row_spelling c.args.sites.now c.next.new.self c.args.server areas.Cd c.args.table (change_key_spelling c.args.after) (reads_of_one 1 c.args.server areas.Cd) c.in_err-next.field-0.0 (λ bytes h. h.1) (λ bytes h. h.1) c.in_err-next.ensures.fault)
