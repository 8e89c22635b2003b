use Rattle.std.proofs.Common.{arith}
use Rattle.std.proofs.lemmas.Result.{err_from_is_err_and}
use Rattle.world_store.specs.Words.{IsLogRecord, log_spelling, Is64, b64, single_spelling, head_spelling, IsHead}
use Rattle.site_store.specs.Words.{reads_of_one, get_breaks, next_breaks, breaks_after, looks_then}
use Rattle.repl_types.specs.declared.area.Area.TheVariants as areas
use Rattle.source_log.specs.Rules.{rules}
use Rattle.source_log.proofs.Ends.{first_breaks, end_breaks}
use Rattle.source_log.proofs.appending.read_end.Goals as goal

pub returns-in_err-head-clause-fault : goal.returns-in_err-head-clause-fault
returns-in_err-head-clause-fault g c =
    let p = err_from_is_err_and c.from_residual.result c.from_residual.ensures.1 in
    rw (p.1, p.2) (first_breaks g.K.Keeper.kept c.args.sites.now c.get_state.new.self c.args.server c.in_err-head.field-0.0 (get_breaks rules g.K.Keeper.kept IsHead head_spelling c.args.sites.now c.get_state.new.self c.args.server areas.Head 0 (single_spelling (record {})) (reads_of_one 1 c.args.server areas.Head) c.in_err-head.field-0.0 (λ bytes h. h) c.in_err-head.ensures.fault))

pub returns-in_err-next-clause-fault : goal.returns-in_err-next-clause-fault
returns-in_err-next-clause-fault g c =
    let p = err_from_is_err_and c.from_residual-in_err-next.result c.from_residual-in_err-next.ensures.1 in
    rw (p.1, p.2) (first_breaks g.K.Keeper.kept c.args.sites.now c.next.new.self c.args.server c.in_err-next.field-0.0 (breaks_after rules g.K.Keeper.kept c.args.sites.now c.get_state.new.self c.next.new.self c.args.server c.in_err-next.field-0.0 (record { most = reads_of_one 1 c.args.server areas.Head; stays = c.in_ok-head.ensures.ok.stays }) (next_breaks rules g.K.Keeper.kept Is64 b64 IsLogRecord log_spelling c.get_state.new.self c.next.new.self c.args.server areas.Log 0 (b64 c.in_ok-head.head.last) (reads_of_one 1 c.args.server areas.Log) c.in_err-next.field-0.0 (λ bytes h. h) (λ bytes h. h) c.in_err-next.ensures.fault)))

pub returns-in_default-clause-ok : goal.returns-in_default-clause-ok
returns-in_default-clause-ok g c = looks_then g.K.Keeper.kept c.args.sites.now c.get_state.new.self c.next.new.self (record { most = reads_of_one 1 c.args.server areas.Head; stays = c.in_ok-head.ensures.ok.stays }) (record { most = reads_of_one 1 c.args.server areas.Log; stays = c.in_ok-next.ensures.ok.stays })

pub returns-clause-fault : goal.returns-clause-fault
returns-clause-fault g c = end_breaks g.K.Keeper.kept c.args.sites.now c.get_state.new.self c.next.new.self c.unfit.new.self c.args.server c.in_ok-head.head (b64 c.in-Some._key) c.in-Some.logged c.unfit.result (record { most = reads_of_one 1 c.args.server areas.Head; stays = c.in_ok-head.ensures.ok.stays }) c.in_ok-next.ensures.ok c.unfit.ensures.closes (c.in_ok-head.ensures.fits (omega arith, omega arith, omega arith)) c.in_ok-head.ensures.state (rw c.in-Some.is at c.in_ok-next.ensures.row) c.unfit.ensures.fault
