use Rattle.std.proofs.lemmas.Result.{err_from_is_err_and}
use Rattle.world_store.specs.Words.{b64, entry_spelling, IsEntry}
use Rattle.site_store.specs.Words.{reads_of_one, sees, get_breaks}
use Rattle.repl_types.specs.declared.area.Area.TheVariants as areas
use Rattle.subs_sets.specs.Rules.{state_rules}
use Rattle.subs_sets.proofs.StoredEntries.{entry_is, fits_alone}
use Rattle.subs_sets.proofs.states.trail_entry.Goals as goal

pub returns-in_err-found-clause-fault : goal.returns-in_err-found-clause-fault
returns-in_err-found-clause-fault g c =
    let p = err_from_is_err_and c.from_residual.result c.from_residual.ensures.1 in
    let set = c.args.set.now in
    rw (p.1, p.2) (get_breaks state_rules g.K.Keeper.kept IsEntry entry_spelling c.args.sites.now c.get.new.self set.target areas.Trail set.at_target.number (b64 c.args.number) (reads_of_one 1 set.target areas.Trail) c.in_err-found.field-0.0 (λ bytes h. h) c.in_err-found.ensures.fault)

pub returns-clause-found : goal.returns-clause-found
returns-clause-found g c = λ w k sound placed reveals.
    let set = c.args.set.now in
    entry_is w k set (sees g.K.Keeper.kept c.args.sites.now set.target) c.args.number c.in_ok-found.found sound placed reveals c.ranges.number.fits (fits_alone c.in_ok-found.found c.in_ok-found.ensures.fits) c.in_ok-found.ensures.row
