use Rattle.std.proofs.Common.{List, length, refl, sym, subst, arith, IfSome}
use Rattle.std.proofs.lemmas.Option.{slice_get_read}
use Rattle.world_store.specs.Words.{IsSet, set_spelling, definition_limit}
use Rattle.site_store.specs.Words.{sees, looks_then, reads_of_one}
use Rattle.repl_model.specs.Words.{IsTargetSet, target_set_spelling, TargetSet}
use Rattle.stored_defs.specs.Reading.{HasRecords}
use Rattle.repl_types.specs.declared.area.Area.TheVariants as areas
use Rattle.stored_defs.specs.laws.Standing.{none_damaged}
use Rattle.shows.proofs.SetBlame.{definitions_later, definitions_show, rows_stop}
use Rattle.shows.proofs.FoundTargets.{none_at_all, none_before_next}
use Rattle.shows.proofs.Passed.{passed}
use Rattle.shows.proofs.targets.find_target.Goals as goal

pub returns-in_err-rows-clause-fault : goal.returns-in_err-rows-clause-fault
returns-in_err-rows-clause-fault g c =
    let kept = g.K.Keeper.kept in
    let s0 = c.args.sites.now in
    let e = c.in_err-rows.field-0.0 in
    passed c.from_residual.result _ _ c.from_residual.ensures.1 (definitions_show kept s0 c.read_records.new.sites e (rows_stop kept s0 c.read_records.new.sites e c.args.server c.requires.server (reads_of_one definition_limit c.args.server areas.Defs) c.in_err-rows.ensures.fault))

pub returns-in_err-rows-clause-undamaged : goal.returns-in_err-rows-clause-undamaged
returns-in_err-rows-clause-undamaged g c =
    let kept = g.K.Keeper.kept in
    let s0 = c.args.sites.now in
    let e = c.in_err-rows.field-0.0 in
    passed c.from_residual.result _ _ c.from_residual.ensures.1 (λ w stands. none_damaged kept s0 c.requires.closed w stands c.read_records.new.sites e (rows_stop kept s0 c.read_records.new.sites e c.args.server c.requires.server (reads_of_one definition_limit c.args.server areas.Defs) c.in_err-rows.ensures.fault).blames)

pub returns-in_err-target-clause-fault : goal.returns-in_err-target-clause-fault
returns-in_err-target-clause-fault g c =
    let kept = g.K.Keeper.kept in
    let s0 = c.args.sites.now in
    let e = c.in_err-target.field-0.0 in
    passed c.from_residual-in_err-target.result _ _ c.from_residual-in_err-target.ensures.1 (definitions_show kept s0 c.find_in.new.sites e (definitions_later kept s0 c.loop-row.sites c.loop-row.invariant.looks c.find_in.new.sites e c.in_err-target.ensures.fault))

pub returns-in-Some-clause-ok : goal.returns-in-Some-clause-ok
returns-in-Some-clause-ok g c = looks_then g.K.Keeper.kept c.args.sites.now c.loop-row.sites c.find_in.new.sites c.loop-row.invariant.looks c.in_ok-target.ensures.ok

pub loop-row-preserved : goal.loop-row-preserved
loop-row-preserved g c =
    let items = c.as_slice-row-items.result.now in
    let n = c.loop-row.row-index in
    let row = c.row-item.result in
    record {
      looks = looks_then g.K.Keeper.kept c.args.sites.now c.loop-row.sites c.find_in.new.sites c.loop-row.invariant.looks c.in_ok-target.ensures.ok;
      none = none_before_next g.K.Keeper.kept c.args.sites.now c.loop-row.sites c.args.server c.args.name.now items n row c.loop-row.invariant.looks (slice_get_read items (length items) n row refl c.loop-row-test.true c.row-item.is) c.loop-row.invariant.none (rw c.in_default.is at c.in_ok-target.ensures.found);
    }

pub returns-clause-found : goal.returns-clause-found
returns-clause-found g c = λ w stands.
    let kept = g.K.Keeper.kept in
    let s0 = c.args.sites.now in
    let server = c.args.server in
    let read = subst (λ (rows : List TargetSet). IfSome (sees kept s0 server) (HasRecords IsSet set_spelling IsTargetSet target_set_spelling areas.Defs 3 rows)) (sym c.as_slice-row-items.ensures) c.in_ok-rows.ensures.records in
    none_at_all kept s0 c.requires.closed w stands server c.requires.server c.args.name.now c.as_slice-row-items.result.now read (λ m lt row at. c.loop-row.invariant.none w stands m (omega (arith, lt, c.loop-row-test.false)) row at)
