use Rattle.std.specs.Prelude.{Some, None}
use Rattle.std.proofs.lemmas.Result.{err_from_is_err_and}
use Rattle.world_store.specs.Words.{set_spelling}
use Rattle.site_store.specs.Words.{reads_of_one, looks_then}
use Rattle.repl_model.specs.Words.{target_set_spelling, IsTargetSet}
use Rattle.repl_types.specs.declared.area.Area.TheVariants as areas
use Rattle.set_places.proofs.FindFaults.{get_stops, stops_later}
use Rattle.set_places.proofs.FoundSets.{none_without_row, placed_if_apart, none_if_same, known_if_found}
use Rattle.set_places.proofs.finding.find_at.Goals as goal

pub returns-in_err-row-clause-fault : goal.returns-in_err-row-clause-fault
returns-in_err-row-clause-fault g c =
    let p = err_from_is_err_and c.from_residual.result c.from_residual.ensures.1 in
    rw (p.1, p.2) (get_stops g.K.Keeper.kept IsTargetSet target_set_spelling c.args.sites.now c.get.new.self c.args.target 3 (set_spelling c.args.id.now) c.in_err-row.field-0.0 c.requires.target (λ bytes h. h) c.in_err-row.ensures.fault)

pub returns-in_default-clause-known : goal.returns-in_default-clause-known
returns-in_default-clause-known g c = none_without_row g.K.Keeper.kept c.args.sites.now c.requires.closed c.args.id.now c.args.target c.requires.target (rw c.in_default.is at c.in_ok-row.ensures.row)

pub returns-in_err-found-clause-fault : goal.returns-in_err-found-clause-fault
returns-in_err-found-clause-fault g c =
    let p = err_from_is_err_and c.from_residual-in_err-found.result c.from_residual-in_err-found.ensures.1 in
    rw (p.1, p.2) (stops_later g.K.Keeper.kept c.args.sites.now c.get.new.self c.find_from.new.sites c.in_err-found.field-0.0 (record { most = reads_of_one 1 c.args.target areas.Defs; stays = c.in_ok-row.ensures.ok.stays }) c.in_err-found.ensures.fault)

pub returns-in_default-found-clause-ok : goal.returns-in_default-found-clause-ok
returns-in_default-found-clause-ok g c = looks_then g.K.Keeper.kept c.args.sites.now c.get.new.self c.find_from.new.sites (record { most = reads_of_one 1 c.args.target areas.Defs; stays = c.in_ok-row.ensures.ok.stays }) c.in_ok-found.ensures.ok

pub returns-in_default-found-clause-known : goal.returns-in_default-found-clause-known
returns-in_default-found-clause-known g c = known_if_found g.K.Keeper.kept c.args.sites.now c.requires.closed c.args.id.now c.args.target c.requires.target c.in-Some.at_target (rw c.in-Some.is at c.in_ok-row.ensures.fits).fits (rw c.in-Some.is at c.in_ok-row.ensures.row) c.get.new.self c.find_from.new.sites (record { most = reads_of_one 1 c.args.target areas.Defs; stays = c.in_ok-row.ensures.ok.stays }) c.in_ok-found.ensures.ok None (rw c.in_default-found.is at c.in_ok-found.ensures.found)

pub returns-then-set-target-clause-ok : goal.returns-then-set-target-clause-ok
returns-then-set-target-clause-ok g c = looks_then g.K.Keeper.kept c.args.sites.now c.get.new.self c.find_from.new.sites (record { most = reads_of_one 1 c.args.target areas.Defs; stays = c.in_ok-row.ensures.ok.stays }) c.in_ok-found.ensures.ok

pub returns-then-set-target-clause-known : goal.returns-then-set-target-clause-known
returns-then-set-target-clause-known g c = none_if_same g.K.Keeper.kept c.args.sites.now c.requires.closed c.args.id.now c.args.target c.requires.target c.in-Some.at_target (rw c.in-Some.is at c.in_ok-row.ensures.fits).fits (rw c.in-Some.is at c.in_ok-row.ensures.row) c.get.new.self c.find_from.new.sites (record { most = reads_of_one 1 c.args.target areas.Defs; stays = c.in_ok-row.ensures.ok.stays }) c.in_ok-found.ensures.ok c.in-Some-found.set c.if-set-target.true (rw c.in-Some-found.is at c.in_ok-found.ensures.found)

pub returns-clause-ok : goal.returns-clause-ok
returns-clause-ok g c = looks_then g.K.Keeper.kept c.args.sites.now c.get.new.self c.find_from.new.sites (record { most = reads_of_one 1 c.args.target areas.Defs; stays = c.in_ok-row.ensures.ok.stays }) c.in_ok-found.ensures.ok

pub returns-clause-placed : goal.returns-clause-placed
returns-clause-placed g c = placed_if_apart g.K.Keeper.kept c.args.sites.now c.requires.closed c.args.id.now c.args.target c.requires.target c.in-Some.at_target (rw c.in-Some.is at c.in_ok-row.ensures.fits).fits (rw c.in-Some.is at c.in_ok-row.ensures.row) c.get.new.self c.find_from.new.sites (record { most = reads_of_one 1 c.args.target areas.Defs; stays = c.in_ok-row.ensures.ok.stays }) c.in_ok-found.ensures.ok c.in-Some-found.set c.if-set-target.false (rw c.in-Some-found.is at c.in_ok-found.ensures.found)

pub returns-clause-known : goal.returns-clause-known
returns-clause-known g c = known_if_found g.K.Keeper.kept c.args.sites.now c.requires.closed c.args.id.now c.args.target c.requires.target c.in-Some.at_target (rw c.in-Some.is at c.in_ok-row.ensures.fits).fits (rw c.in-Some.is at c.in_ok-row.ensures.row) c.get.new.self c.find_from.new.sites (record { most = reads_of_one 1 c.args.target areas.Defs; stays = c.in_ok-row.ensures.ok.stays }) c.in_ok-found.ensures.ok (Some c.in-Some-found.set) (rw c.in-Some-found.is at c.in_ok-found.ensures.found)
