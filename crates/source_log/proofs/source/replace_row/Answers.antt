use Rattle.std.proofs.Common.{◌≡◌, ◌∙◌, ap, Some, None}
use Rattle.std.proofs.lemmas.Result.{err_from_is_err_and}
use Rattle.world_store.specs.Words.{key_spelling, row_spelling}
use Rattle.site_store.specs.Words.{Contents, put_at, write_fails_on, goes_then}
use Rattle.repl_model.specs.Words.{key_of}
use Rattle.repl_types.specs.declared.area.Area.TheVariants as areas
use Rattle.source_log.proofs.source.replace_row.Goals as goal

pub returns-in_err-put_row-clause-fault : goal.returns-in_err-put_row-clause-fault
returns-in_err-put_row-clause-fault g c =
    let p = err_from_is_err_and c.from_residual-in_err-put_row.result c.from_residual-in_err-put_row.ensures.1 in
    rw (p.1, p.2) (write_fails_on g.K.Keeper.kept c.args.sites.now c.remove_row.new.sites c.put_row.new.sites c.args.server _ c.in_err-put_row.field-0.0 c.in_ok-remove_row.ensures.ok c.in_err-put_row.ensures.fault)

pub returns-clause-ok : goal.returns-clause-ok
returns-clause-ok g c =
    let table = c.args.table.now in
    let gone = key_spelling (key_of table.def c.args.gone.now) in
    let key = key_spelling (key_of table.def c.args.row.now) in
    let n = table.number in
    let row = row_spelling c.args.row.now in
    goes_then g.K.Keeper.kept c.args.sites.now c.remove_row.new.sites c.put_row.new.sites c.args.server (λ d e. e ≡ put_at d areas.Source n gone None) (λ d e. e ≡ put_at d areas.Source n key (Some row)) (λ d e. e ≡ put_at (put_at d areas.Source n gone None) areas.Source n key (Some row)) c.requires.open c.in_ok-remove_row.ensures.ok c.in_ok-put_row.ensures.ok (λ d e f p q. q ∙ ap (λ (x : Contents). put_at x areas.Source n key (Some row)) p)
