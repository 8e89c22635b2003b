use Rattle.std.proofs.Common.{Some, refl, sym, ◌∙◌, IfSome}
use Rattle.std.proofs.lemmas.Result.{err_from_is_err_and}
use Rattle.world_store.specs.Words.{short_text}
use Rattle.site_store.specs.Words.{reads_of_one, RowIs, IsRecord, sees, if_seen, get_breaks, unfit_breaks}
use Rattle.repl_model.specs.Words.{defined_registration_spelling, IsDefinedRegistration}
use Rattle.repl_types.specs.declared.area.Area.TheVariants as areas
use Rattle.cd_tables.specs.Rules.{rules}
use Rattle.cd_tables.proofs.registrations.read_registration.Goals as goal

pub returns-in_err-found-clause-fault : goal.returns-in_err-found-clause-fault
returns-in_err-found-clause-fault g c =
    let p = err_from_is_err_and c.from_residual.result c.from_residual.ensures.1 in
    rw (p.1, p.2) (get_breaks rules g.K.Keeper.kept IsDefinedRegistration defined_registration_spelling c.args.sites.now c.get.new.self c.args.server areas.Defs 1 (short_text c.args.name.now) (reads_of_one 1 c.args.server areas.Defs) c.in_err-found.field-0.0 (λ bytes h. h) c.in_err-found.ensures.fault)

pub returns-then-not-is_of_table-clause-fault : goal.returns-then-not-is_of_table-clause-fault
returns-then-not-is_of_table-clause-fault g c =
    let name = c.args.name.now in
    let key = short_text name in
    let reg = c.in-Some.reg in
    let bytes = defined_registration_spelling reg in
    let saw = sees g.K.Keeper.kept c.args.sites.now c.args.server in
    let stands : IfSome saw (RowIs defined_registration_spelling areas.Defs 1 key (Some reg)) = rw c.in-Some.is at c.in_ok-found.ensures.row in
    let fits : IfSome c.in_ok-found.found (IsRecord IsDefinedRegistration defined_registration_spelling) = c.in_ok-found.ensures.fits in
    unfit_breaks rules g.K.Keeper.kept c.args.sites.now c.get.new.self c.unfit.new.self c.args.server areas.Defs 1 key bytes c.unfit.result c.in_ok-found.ensures.ok stands (if_seen saw (RowIs defined_registration_spelling areas.Defs 1 key (Some reg)) (rules.is_unfit areas.Defs 1 key bytes) (λ d has. (name, reg, refl, refl, (rw c.in-Some.is at fits).fits, sym c.is_of_table.ensures ∙ c.if-not-is_of_table.true)) stands) c.unfit.ensures.closes c.unfit.ensures.fault
