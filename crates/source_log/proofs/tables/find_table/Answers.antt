use Rattle.std.proofs.lemmas.Result.{err_from_is_err_and}
use Rattle.world_store.specs.Words.{short_text}
use Rattle.site_store.specs.Words.{reads_of_one, get_breaks, memory_after, looks_none}
use Rattle.repl_model.specs.Words.{defined_table_spelling, IsDefinedTable}
use Rattle.repl_types.specs.declared.area.Area.TheVariants as areas
use Rattle.source_log.specs.Rules.{rules}
use Rattle.source_log.proofs.tables.find_table.Goals as goal

pub returns-in_err-here-clause-fault : goal.returns-in_err-here-clause-fault
returns-in_err-here-clause-fault g c =
    let s0 = c.args.sites.now in
    let p = err_from_is_err_and c.from_residual.result c.from_residual.ensures.1 in
    rw (p.1, p.2) (memory_after rules g.K.Keeper.kept s0 s0 c.args.server (looks_none g.K.Keeper.kept s0))

pub returns-in-Some-clause-ok : goal.returns-in-Some-clause-ok
returns-in-Some-clause-ok g c = looks_none g.K.Keeper.kept c.args.sites.now

pub returns-in_err-found-clause-fault : goal.returns-in_err-found-clause-fault
returns-in_err-found-clause-fault g c =
    let p = err_from_is_err_and c.from_residual-in_err-found.result c.from_residual-in_err-found.ensures.1 in
    rw (p.1, p.2) (get_breaks rules g.K.Keeper.kept IsDefinedTable defined_table_spelling c.args.sites.now c.get.new.self c.args.server areas.Defs 0 (short_text c.args.name.now) (reads_of_one 1 c.args.server areas.Defs) c.in_err-found.field-0.0 (λ bytes h. h) c.in_err-found.ensures.fault)
