use Rattle.std.proofs.Common.{inr, refl}
use Rattle.std.proofs.lemmas.Result.{err_from_is_err_and}
use Rattle.world_store.specs.Words.{short_text}
use Rattle.site_store.specs.Words.{reads_of_one, sees, needed_breaks, if_seen}
use Rattle.repl_model.specs.Words.{defined_table_spelling, IsDefinedTable}
use Rattle.repl_types.specs.declared.area.Area.TheVariants as areas
use Rattle.set_places.specs.Members.{HasRegistration}
use Rattle.apply_copies.specs.ChangeRules.{change_source_rules}
use Rattle.apply_copies.proofs.taking.read_source.Goals as goal

pub returns-in_err-table-clause-fault : goal.returns-in_err-table-clause-fault
returns-in_err-table-clause-fault g c =
    let p = err_from_is_err_and c.from_residual.result c.from_residual.ensures.1 in
    let server = c.args.server in
    let reg = c.args.reg in
    let key = short_text reg.registration.table in
    rw (p.1, p.2) (needed_breaks change_source_rules g.K.Keeper.kept IsDefinedTable defined_table_spelling c.args.sites.now c.get_needed.new.self server areas.Defs 0 key (reads_of_one 1 server areas.Defs) c.in_err-table.field-0.0 (λ bytes h. h.1) (if_seen (sees g.K.Keeper.kept c.args.sites.now server) (HasRegistration reg) (change_source_rules.is_needed areas.Defs 0 key) (λ d has. inr (reg, c.requires.fits, has, refl)) c.requires.registered) c.in_err-table.ensures.fault)
