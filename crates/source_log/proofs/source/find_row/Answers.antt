use Rattle.std.proofs.lemmas.Result.{err_from_is_err_and}
use Rattle.world_store.specs.Words.{key_spelling, source_row_spelling, IsSourceRow}
use Rattle.site_store.specs.Words.{reads_of_one, get_breaks}
use Rattle.repl_types.specs.declared.area.Area.TheVariants as areas
use Rattle.source_log.specs.Rules.{rules}
use Rattle.source_log.proofs.source.find_row.Goals as goal

pub returns-in_err-found-clause-fault : goal.returns-in_err-found-clause-fault
returns-in_err-found-clause-fault g c =
    let p = err_from_is_err_and c.from_residual.result c.from_residual.ensures.1 in
    rw (p.1, p.2) (get_breaks rules g.K.Keeper.kept IsSourceRow source_row_spelling c.args.sites.now c.get.new.self c.args.server areas.Source c.args.table (key_spelling c.args.key.now) (reads_of_one 1 c.args.server areas.Source) c.in_err-found.field-0.0 (λ bytes h. h) c.in_err-found.ensures.fault)
