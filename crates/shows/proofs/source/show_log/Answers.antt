use Rattle.std.proofs.lemmas.Result.{IfErr-weaker}
use Rattle.world_store.specs.Words.{Is64, b64, IsLogRecord, log_spelling}
use Rattle.site_store.specs.Words.{Takes, TakesPrefix}
use Rattle.repl_types.specs.declared.area.Area.TheVariants as areas
use Rattle.shows.specs.tables.Rules.{log_reads}
use Rattle.shows.proofs.Passed.{on_err, passed}
use Rattle.shows.proofs.TableBlame.{fails_alone, shows_undamaged}
use Rattle.shows.proofs.StandingTables.{log_shown}
use Rattle.shows.proofs.source.show_log.Goals as goal

pub returns-in_err-show_records-clause-err : goal.returns-in_err-show_records-clause-err
returns-in_err-show_records-clause-err g c = on_err c.from_residual.result (λ w is_world. log_shown g.K.Keeper.kept c.args.sites.now c.requires.closed w is_world c.args.server c.requires.server (TakesPrefix (g.O.Sink.taken c.args.output.now) (g.O.Sink.taken c.show_records.new.output)) c.in_err-show_records.ensures.err)

pub returns-in_err-show_records-clause-fault : goal.returns-in_err-show_records-clause-fault
returns-in_err-show_records-clause-fault g c = passed c.from_residual.result _ _ c.from_residual.ensures.1 (fails_alone g.K.Keeper.kept Is64 b64 IsLogRecord log_spelling areas.Log 0 (λ bytes h. h) (λ bytes h. h) c.args.sites.now c.show_records.new.sites c.args.server (g.O.Sink.faults c.args.output.now) (g.O.Sink.faults c.show_records.new.output) c.in_err-show_records.field-0.0 c.requires.server c.in_err-show_records.ensures.fault)

pub returns-in_err-show_records-clause-undamaged : goal.returns-in_err-show_records-clause-undamaged
returns-in_err-show_records-clause-undamaged g c = IfErr-weaker c.from_residual.result _ _ (shows_undamaged g.K.Keeper.kept c.args.sites.now c.show_records.new.sites (log_reads c.args.server) (g.O.Sink.faults c.args.output.now) (g.O.Sink.faults c.show_records.new.output) c.requires.closed) (returns-in_err-show_records-clause-fault g c)

pub returns-clause-ok : goal.returns-clause-ok
returns-clause-ok g c = λ w is_world. log_shown g.K.Keeper.kept c.args.sites.now c.requires.closed w is_world c.args.server c.requires.server (Takes (g.O.Sink.taken c.args.output.now) (g.O.Sink.taken c.show_records.new.output)) c.in_ok-show_records.ensures.ok
