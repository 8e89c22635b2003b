use Rattle.std.proofs.lemmas.Result.{err_from_is_err_and}
use Rattle.world_store.specs.Words.{set_spelling}
use Rattle.site_store.specs.Words.{looks_none}
use Rattle.repl_model.specs.Words.{source_set_spelling, IsSourceSet}
use Rattle.set_places.proofs.FindFaults.{get_stops}
use Rattle.set_places.proofs.FoundSources.{no_server_found, no_row_found, row_found}
use Rattle.set_places.proofs.finding.find_from.Goals as goal

pub returns-in_default-clause-ok : goal.returns-in_default-clause-ok
returns-in_default-clause-ok g c = looks_none g.K.Keeper.kept c.args.sites.now

pub returns-in_default-clause-found : goal.returns-in_default-clause-found
returns-in_default-clause-found g c = no_server_found g.K.Keeper.kept c.args.sites.now c.requires.closed c.args.target c.args.at_target c.in_default.ensures

pub returns-in_err-row-clause-fault : goal.returns-in_err-row-clause-fault
returns-in_err-row-clause-fault g c =
    let p = err_from_is_err_and c.from_residual.result c.from_residual.ensures.1 in
    rw (p.1, p.2) (get_stops g.K.Keeper.kept IsSourceSet source_set_spelling c.args.sites.now c.get.new.self c.in-Some.source 2 (set_spelling c.args.at_target.def.id) c.in_err-row.field-0.0 c.in-Some.ensures.within (λ bytes h. h) c.in_err-row.ensures.fault)

pub returns-in_default-row-clause-found : goal.returns-in_default-row-clause-found
returns-in_default-row-clause-found g c = no_row_found g.K.Keeper.kept c.args.sites.now c.requires.closed c.args.target c.args.at_target c.in-Some.source c.in-Some.ensures (rw c.in_default-row.is at c.in_ok-row.ensures.row)

pub returns-clause-found : goal.returns-clause-found
returns-clause-found g c = row_found g.K.Keeper.kept c.args.sites.now c.requires.closed c.args.target c.args.at_target c.in-Some.source c.in-Some-row.at_source (rw c.in-Some-row.is at c.in_ok-row.ensures.fits).fits c.in-Some.ensures (rw c.in-Some-row.is at c.in_ok-row.ensures.row)
