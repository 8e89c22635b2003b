use Rattle.std.proofs.lemmas.Result.{err_from_is_err_and}
use Rattle.site_store.specs.Words.{count_max, Takes, TakesPrefix, reads_of_one}
use Rattle.repl_types.specs.declared.area.Area.TheVariants as areas
use Rattle.apply_copies.proofs.ShownCopies.{copy_shown, copy_undamaged, copy_fails}
use Rattle.apply_copies.proofs.showing.show_copy.Goals as goal

pub returns-in_err-show_records-clause-err : goal.returns-in_err-show_records-clause-err
returns-in_err-show_records-clause-err g c =
    let target = c.args.target.now in
    let p = err_from_is_err_and c.from_residual.result c.from_residual.ensures.1 in
    rw p.1 (λ w k stands placed read_only m at. copy_shown g.K.Keeper.kept c.args.sites.now target.set target.member c.requires.closed c.requires.placed c.requires.copy w k stands placed read_only c.target_number-number.result c.target_number-number.ensures m at (TakesPrefix (g.O.Sink.taken c.args.output.now) (g.O.Sink.taken c.show_records.new.output)) c.in_err-show_records.ensures.err)

pub returns-in_err-show_records-clause-fault : goal.returns-in_err-show_records-clause-fault
returns-in_err-show_records-clause-fault g c =
    let target = c.args.target.now in
    let p = err_from_is_err_and c.from_residual.result c.from_residual.ensures.1 in
    rw (p.1, p.2) (copy_fails g.K.Keeper.kept c.args.sites.now c.show_records.new.sites target.set target.member c.requires.closed c.requires.placed c.requires.copy c.target_number-number.result c.target_number-number.ensures (reads_of_one count_max target.set.target areas.Target) (g.O.Sink.faults c.args.output.now) (g.O.Sink.faults c.show_records.new.output) c.in_err-show_records.field-0.0 c.in_err-show_records.ensures.fault)

pub returns-in_err-show_records-clause-undamaged : goal.returns-in_err-show_records-clause-undamaged
returns-in_err-show_records-clause-undamaged g c =
    let target = c.args.target.now in
    let p = err_from_is_err_and c.from_residual.result c.from_residual.ensures.1 in
    rw (p.1, p.2) (λ w k stands placed read_only. copy_undamaged g.K.Keeper.kept c.args.sites.now target.set target.member c.requires.closed c.requires.placed c.requires.copy w k stands placed read_only c.target_number-number.result c.target_number-number.ensures c.show_records.new.sites (reads_of_one count_max target.set.target areas.Target) (g.O.Sink.faults c.args.output.now) (g.O.Sink.faults c.show_records.new.output) c.in_err-show_records.field-0.0 c.in_err-show_records.ensures.fault)

pub returns-clause-ok : goal.returns-clause-ok
returns-clause-ok g c = λ w k stands placed read_only m at.
    let target = c.args.target.now in
    copy_shown g.K.Keeper.kept c.args.sites.now target.set target.member c.requires.closed c.requires.placed c.requires.copy w k stands placed read_only c.target_number-number.result c.target_number-number.ensures m at (Takes (g.O.Sink.taken c.args.output.now) (g.O.Sink.taken c.show_records.new.output)) c.in_ok-show_records.ensures.ok
