use Rattle.std.proofs.Common.{◌<◌, length, sym, ap, subst, is_some}
use Rattle.std.proofs.lemmas.Result.{IfErr-weaker}
use Rattle.world_store.specs.Words.{short_text, IsChangeRow, change_row_spelling, IsChangeKey, change_key_spelling}
use Rattle.site_store.specs.Words.{count_max, Takes, TakesPrefix, takes_nothing, names, reads_of_one, at_most_itself, get_fails}
use Rattle.repl_model.specs.Words.{defined_registration_spelling, IsDefinedRegistration}
use Rattle.repl_types.specs.declared.area.Area.TheVariants as areas
use Rattle.shows.specs.tables.Rules.{rules, change_reads}
use Rattle.shows.proofs.Passed.{on_err, passed}
use Rattle.shows.proofs.TableBlame.{fails_by_rules, one_read, shows_undamaged}
use Rattle.shows.proofs.StandingTables.{changes_shown, none_registered, nothing_registered, registered_is}
use Rattle.shows.proofs.captured.show_changes.Goals as goal

pub returns-in_err-defined-clause-fault : goal.returns-in_err-defined-clause-fault
returns-in_err-defined-clause-fault g c = passed c.from_residual.result _ _ c.from_residual.ensures.1 (get_fails g.K.Keeper.kept IsDefinedRegistration defined_registration_spelling (λ s. s < length (names c.args.sites.now)) rules c.args.sites.now c.get.new.self c.args.server areas.Defs 1 (short_text c.args.table.now) (change_reads c.args.server) c.in_err-defined.field-0.0 c.requires.server (λ bytes h. h) (one_read c.args.server (reads_of_one count_max c.args.server areas.Cd)) c.in_err-defined.ensures.fault)

pub returns-in_err-defined-clause-undamaged : goal.returns-in_err-defined-clause-undamaged
returns-in_err-defined-clause-undamaged g c = IfErr-weaker c.from_residual.result _ _ (shows_undamaged g.K.Keeper.kept c.args.sites.now c.get.new.self (change_reads c.args.server) (g.O.Sink.faults c.args.output.now) (g.O.Sink.faults c.args.output.now) c.requires.closed) (returns-in_err-defined-clause-fault g c)

pub returns-in_default-clause-ok : goal.returns-in_default-clause-ok
returns-in_default-clause-ok g c = λ w is_world. subst (Takes (g.O.Sink.taken c.args.output.now) (g.O.Sink.taken c.args.output.now)) (sym (nothing_registered g.K.Keeper.kept c.args.sites.now c.requires.closed w is_world c.args.server c.requires.server c.args.table.now (rw c.in_default.is at c.in_ok-defined.ensures.row))) (takes_nothing (g.O.Sink.taken c.args.output.now))

pub returns-in_default-clause-found : goal.returns-in_default-clause-found
returns-in_default-clause-found g c = λ w is_world. sym (ap is_some (none_registered g.K.Keeper.kept c.args.sites.now c.requires.closed w is_world c.args.server c.requires.server c.args.table.now (rw c.in_default.is at c.in_ok-defined.ensures.row)))

pub returns-in_err-show_records-clause-err : goal.returns-in_err-show_records-clause-err
returns-in_err-show_records-clause-err g c =
    let fits = rw c.in-Some.is at c.in_ok-defined.ensures.fits in
    on_err c.from_residual-in_err-show_records.result (λ w is_world. changes_shown g.K.Keeper.kept c.args.sites.now c.requires.closed w is_world c.args.server c.requires.server c.args.table.now c.in-Some.defined fits.fits (rw c.in-Some.is at c.in_ok-defined.ensures.row) c.get.new.self (reads_of_one 1 c.args.server areas.Defs) c.in_ok-defined.ensures.ok.stays (TakesPrefix (g.O.Sink.taken c.args.output.now) (g.O.Sink.taken c.show_records.new.output)) c.in_err-show_records.ensures.err)

pub returns-in_err-show_records-clause-fault : goal.returns-in_err-show_records-clause-fault
returns-in_err-show_records-clause-fault g c = passed c.from_residual-in_err-show_records.result _ _ c.from_residual-in_err-show_records.ensures.1 (fails_by_rules g.K.Keeper.kept IsChangeKey change_key_spelling IsChangeRow change_row_spelling areas.Cd c.in-Some.defined.number (λ bytes h. h) (λ bytes h. h) c.args.sites.now c.get.new.self c.show_records.new.sites c.args.server (reads_of_one 1 c.args.server areas.Defs) (reads_of_one count_max c.args.server areas.Cd) (change_reads c.args.server) (g.O.Sink.faults c.args.output.now) (g.O.Sink.faults c.show_records.new.output) c.in_err-show_records.field-0.0 c.requires.server (at_most_itself (change_reads c.args.server)) c.in_ok-defined.ensures.ok.stays c.in_err-show_records.ensures.fault)

pub returns-in_err-show_records-clause-undamaged : goal.returns-in_err-show_records-clause-undamaged
returns-in_err-show_records-clause-undamaged g c = IfErr-weaker c.from_residual-in_err-show_records.result _ _ (shows_undamaged g.K.Keeper.kept c.args.sites.now c.show_records.new.sites (change_reads c.args.server) (g.O.Sink.faults c.args.output.now) (g.O.Sink.faults c.show_records.new.output) c.requires.closed) (returns-in_err-show_records-clause-fault g c)

pub returns-clause-ok : goal.returns-clause-ok
returns-clause-ok g c =
    let fits = rw c.in-Some.is at c.in_ok-defined.ensures.fits in
    λ w is_world. changes_shown g.K.Keeper.kept c.args.sites.now c.requires.closed w is_world c.args.server c.requires.server c.args.table.now c.in-Some.defined fits.fits (rw c.in-Some.is at c.in_ok-defined.ensures.row) c.get.new.self (reads_of_one 1 c.args.server areas.Defs) c.in_ok-defined.ensures.ok.stays (Takes (g.O.Sink.taken c.args.output.now) (g.O.Sink.taken c.show_records.new.output)) c.in_ok-show_records.ensures.ok

pub returns-clause-found : goal.returns-clause-found
returns-clause-found g c = let fits = rw c.in-Some.is at c.in_ok-defined.ensures.fits in λ w is_world. sym (ap is_some (registered_is g.K.Keeper.kept c.args.sites.now c.requires.closed w is_world c.args.server c.requires.server c.args.table.now c.in-Some.defined fits.fits (rw c.in-Some.is at c.in_ok-defined.ensures.row)))
