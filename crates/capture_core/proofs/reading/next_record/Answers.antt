use Rattle.std.proofs.Common.{arith}
use Rattle.std.proofs.lemmas.Result.{err_from_is_err_and}
use Rattle.world_store.specs.Words.{IsLogRecord, log_spelling, Is64, b64}
use Rattle.site_store.specs.Words.{reads_of_one, next_breaks}
use Rattle.repl_types.specs.declared.area.Area.TheVariants as areas
use Rattle.capture_core.specs.Rules.{rules}
use Rattle.capture_core.proofs.Positions.{logged_after}
use Rattle.capture_core.proofs.reading.next_record.Goals as goal

pub returns-in_err-next-clause-fault : goal.returns-in_err-next-clause-fault
returns-in_err-next-clause-fault g c =
    let p = err_from_is_err_and c.from_residual.result c.from_residual.ensures.1 in
    rw (p.1, p.2) (next_breaks rules g.K.Keeper.kept Is64 b64 IsLogRecord log_spelling c.args.sites.now c.next.new.self c.args.server areas.Log 0 (b64 c.args.read) (reads_of_one 1 c.args.server areas.Log) c.in_err-next.field-0.0 (λ bytes h. h.0) (λ bytes h. h.0) c.in_err-next.ensures.fault)

pub returns-clause-rises : goal.returns-clause-rises
returns-clause-rises g c = logged_after c.args.read (omega arith) c.in_ok-next.next c.in_ok-next.ensures.rises
