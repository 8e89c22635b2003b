use Rattle.std.proofs.Common.{List, ℕ, Some, sym, ap, ◌∙◌}
use Rattle.std.proofs.lemmas.Result.{err_from_is_err_and}
use Rattle.world_store.specs.Words.{short_text}
use Rattle.site_store.specs.Words.{reads_of_one, RowIs, sees, needed_breaks, breaks_after, memory_after, looks_none, sees_on, if_seen, if_both_seen}
use Rattle.repl_model.specs.Words.{defined_table_spelling, IsDefinedTable}
use Rattle.repl_types.specs.declared.area.Area.TheVariants as areas
use Rattle.source_log.specs.Rules.{rules, IsInFlight, IsLogged}
use Rattle.source_log.proofs.Strays.{other_table, IsStray}
use Rattle.source_log.proofs.steps.read_table.Goals as goal

pub returns-in_err-found-clause-fault : goal.returns-in_err-found-clause-fault
returns-in_err-found-clause-fault g c =
    let s0 = c.args.sites.now in
    let p = err_from_is_err_and c.from_residual.result c.from_residual.ensures.1 in
    rw (p.1, p.2) (memory_after rules g.K.Keeper.kept s0 s0 c.args.server (looks_none g.K.Keeper.kept s0))

pub returns-in-Some-clause-ok : goal.returns-in-Some-clause-ok
returns-in-Some-clause-ok g c = looks_none g.K.Keeper.kept c.args.sites.now

pub returns-in_err-table-clause-fault : goal.returns-in_err-table-clause-fault
returns-in_err-table-clause-fault g c =
    let p = err_from_is_err_and c.from_residual-in_err-table.result c.from_residual-in_err-table.ensures.1 in
    let key = short_text c.table_of.result.now in
    let change = c.args.change.now in
    rw (p.1, p.2) (needed_breaks rules g.K.Keeper.kept IsDefinedTable defined_table_spelling c.args.sites.now c.get_needed.new.self c.args.server areas.Defs 0 key (reads_of_one 1 c.args.server areas.Defs) c.in_err-table.field-0.0 (λ bytes h. h) (if_seen (sees g.K.Keeper.kept c.args.sites.now c.args.server) (λ d. IsInFlight c.args.tx d c.args.pos × IsLogged c.args.tx d c.args.pos change) (rules.is_needed areas.Defs 0 key) (λ d h. (c.args.tx, c.args.pos, change, ap short_text c.table_of.ensures, h.0, c.requires.typed, h.1)) c.requires.in_flight) c.in_err-table.ensures.fault)

pub stray-requires-clause-stray : goal.stray-requires-clause-stray
stray-requires-clause-stray g c =
    let kept = g.K.Keeper.kept in
    let s0 = c.args.sites.now in
    let change = c.args.change.now in
    let table = c.in_ok-table.table in
    let key = short_text c.table_of.result.now in
    sees_on kept s0 c.get_needed.new.self c.args.server (IsStray c.args.tx c.args.pos) (record { most = reads_of_one 1 c.args.server areas.Defs; stays = c.in_ok-table.ensures.ok.stays }) (if_both_seen (sees kept s0 c.args.server) (λ d. IsInFlight c.args.tx d c.args.pos × IsLogged c.args.tx d c.args.pos change) (RowIs defined_table_spelling areas.Defs 0 key (Some table)) (IsStray c.args.tx c.args.pos) (λ d h row. other_table c.args.tx c.args.pos change table d h.0 c.requires.typed h.1 (ap (λ (name : List ℕ). d areas.Defs 0 (short_text name)) (sym c.table_of.ensures) ∙ row) c.in_ok-table.ensures.fits.fits (sym c.in_ok-fit.ensures ∙ c.if-not-fit.true)) c.requires.in_flight c.in_ok-table.ensures.row)

pub returns-then-not-fit-clause-fault : goal.returns-then-not-fit-clause-fault
returns-then-not-fit-clause-fault g c = breaks_after rules g.K.Keeper.kept c.args.sites.now c.get_needed.new.self c.stray.new.sites c.args.server c.stray.result (record { most = reads_of_one 1 c.args.server areas.Defs; stays = c.in_ok-table.ensures.ok.stays }) c.stray.ensures
