use Rattle.std.proofs.Common.{subst, sym, length, ◌≤◌}
use Rattle.std.proofs.lemmas.Result.{err_from_is_err_and}
use Rattle.world_store.specs.Words.{key_spelling, source_storable, IsRow}
use Rattle.repl_model.specs.Words.{IsKeySize, Values, row_limit}
use Rattle.site_store.specs.Words.{no_memory}
use Rattle.source_log.proofs.MayStand.{row_key_size}
use Rattle.source_log.proofs.source.put_row.Goals as goal

pub returns-in_err-key-clause-fault : goal.returns-in_err-key-clause-fault
returns-in_err-key-clause-fault g c =
    let p = err_from_is_err_and c.from_residual.result c.from_residual.ensures.1 in
    rw (p.1, p.2) (no_memory g.K.Keeper.kept c.args.sites.now (λ s a cause. ⊥))

pub returns-in_err-stored-clause-fault : goal.returns-in_err-stored-clause-fault
returns-in_err-stored-clause-fault g c =
    let p = err_from_is_err_and c.from_residual-in_err-stored.result c.from_residual-in_err-stored.ensures.1 in
    rw (p.1, p.2) (no_memory g.K.Keeper.kept c.args.sites.now (λ s a cause. ⊥))

pub put-requires-clause-key : goal.put-requires-clause-key
put-requires-clause-key g c = subst (λ (k : Values). IsKeySize (key_spelling k)) (sym c.in_ok-key.ensures) (row_key_size c.args.table.now.def c.args.row.now c.requires.row)

pub put-requires-clause-value : goal.put-requires-clause-value
put-requires-clause-value g c = source_storable c.in_ok-stored.stored (subst IsRow (sym c.in_ok-stored.ensures) c.requires.row.values) (subst (λ (row : Values). length row ≤ row_limit) (sym c.in_ok-stored.ensures) c.requires.row.short)
