use Rattle.std.proofs.Common.{◌≡◌, ℕ, List, ◌∷◌, [], Some, inl, inr, refl, sym, ap, ◌∙◌}
use Rattle.std.proofs.lemmas.Result.{err_from_is_err_and}
use Rattle.world_store.specs.Words.{short_text}
use Rattle.site_store.specs.Words.{reads_of_one, RowIs, write_breaks_after, goes_none, saw_then}
use Rattle.repl_model.specs.Words.{defined_table_spelling}
use Rattle.repl_types.specs.declared.area.Area.TheVariants as areas
use Rattle.source_log.specs.Making.{with_made}
use Rattle.source_log.specs.Units.{MakesOwn, table_rules}
use Rattle.source_log.proofs.UnitTables.{table_fails, table_is_bad}
use Rattle.source_log.proofs.units.make_own.Goals as goal

pub returns-then-is_signal-clause-ok : goal.returns-then-is_signal-clause-ok
returns-then-is_signal-clause-ok g c = goes_none g.K.Keeper.kept c.args.sites.now c.args.server (MakesOwn c.args.placed.now.change) c.requires.open (λ d. inl (sym c.is_signal.ensures ∙ c.if-is_signal.true, refl))

pub returns-in_err-table-clause-fault : goal.returns-in_err-table-clause-fault
returns-in_err-table-clause-fault g c =
    let p = err_from_is_err_and c.from_residual.result c.from_residual.ensures.1 in
    rw (p.1, p.2) (table_fails g.K.Keeper.kept c.args.sites.now c.get_needed.new.self c.args.server c.args.placed.now (reads_of_one 1 c.args.server areas.Defs) c.in_err-table.field-0.0 (sym c.is_signal.ensures ∙ c.if-is_signal.false) (rw c.table_of.ensures at c.in_err-table.ensures.fault))

pub returns-then-not-fit-clause-fault : goal.returns-then-not-fit-clause-fault
returns-then-not-fit-clause-fault g c = table_is_bad g.K.Keeper.kept c.args.sites.now c.get_needed.new.self c.args.server c.unfit.new.self c.args.placed.now c.in_ok-table.table c.unfit.result (sym c.is_signal.ensures ∙ c.if-is_signal.false) c.in_ok-table.ensures.ok (rw c.table_of.ensures at c.in_ok-table.ensures.row) c.in_ok-table.ensures.fits.fits (sym c.in_ok-fit.ensures ∙ c.if-not-fit.true) c.unfit.ensures.closes c.unfit.ensures.fault

pub returns-in_err-make_change-clause-fault : goal.returns-in_err-make_change-clause-fault
returns-in_err-make_change-clause-fault g c =
    let kept = g.K.Keeper.kept in
    let server = c.args.server in
    let p = err_from_is_err_and c.from_residual-in_err-make_change.result c.from_residual-in_err-make_change.ensures.1 in
    rw (p.1, p.2) (write_breaks_after (table_rules (c.args.placed.now ∷ [])) kept c.args.sites.now c.get_needed.new.self c.make_change.new.sites server c.in_err-make_change.field-0.0 (record { most = reads_of_one 1 server areas.Defs; stays = c.in_ok-table.ensures.ok.stays }) c.in_err-make_change.ensures.fault)

pub returns-clause-ok : goal.returns-clause-ok
returns-clause-ok g c =
    let change = c.args.placed.now.change in
    let table = c.in_ok-table.table in
    saw_then g.K.Keeper.kept c.args.sites.now c.get_needed.new.self c.make_change.new.sites c.args.server (RowIs defined_table_spelling areas.Defs 0 (short_text c.table_of.result.now) (Some table)) (λ d e. e ≡ with_made table change d) (MakesOwn change) c.requires.open
    (record { most = reads_of_one 1 c.args.server areas.Defs; stays = c.in_ok-table.ensures.ok.stays }) c.in_ok-table.ensures.row c.in_ok-make_change.ensures.ok
    (λ d e row made. inr (table, record { stands = ap (λ (name : List ℕ). d areas.Defs 0 (short_text name)) (sym c.table_of.ensures) ∙ row; fits = c.in_ok-table.ensures.fits.fits; may = sym c.in_ok-fit.ensures ∙ c.if-not-fit.false }, made))
