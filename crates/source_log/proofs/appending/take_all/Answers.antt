use Rattle.std.proofs.lemmas.Result.{err_from_is_err_and}
use Rattle.world_store.specs.Words.{b64}
use Rattle.site_store.specs.Words.{IsLastKey, breaks_after, saw_then}
use Rattle.repl_types.specs.declared.area.Area.TheVariants as areas
use Rattle.source_log.specs.Appending.{TakesFirst, TakesAll}
use Rattle.source_log.specs.Rules.{rules, EndIs}
use Rattle.source_log.proofs.Ends.{first_breaks}
use Rattle.source_log.proofs.appending.take_all.Goals as goal

pub returns-in_err-progress-clause-fault : goal.returns-in_err-progress-clause-fault
returns-in_err-progress-clause-fault g c =
    let kept = g.K.Keeper.kept in
    let s0 = c.args.sites.now in
    let s2 = c.take_first.new.sites in
    let e = c.in_err-progress.field-0.0 in
    let p = err_from_is_err_and c.from_residual-in_err-progress.result c.from_residual-in_err-progress.ensures.1 in
    rw (p.1, p.2) (first_breaks kept s0 s2 c.args.server e (breaks_after rules kept s0 c.read_end.new.sites s2 c.args.server e c.in_ok-head.ensures.ok c.in_err-progress.ensures.fault))

pub returns-clause-ok : goal.returns-clause-ok
returns-clause-ok g c =
    let head = c.in_ok-head.head in
    let records = c.args.records.now in
    let progress = c.in_ok-progress.progress in
    saw_then g.K.Keeper.kept c.args.sites.now c.read_end.new.sites c.take_first.new.sites c.args.server (λ d. EndIs head d × IsLastKey (d areas.Log 0) (b64 head.last)) (TakesFirst head records progress) (TakesAll records progress) c.requires.open c.in_ok-head.ensures.ok c.in_ok-head.ensures.end c.in_ok-progress.ensures.ok
    (λ d e n took. record { others = took.others; end = took.end; head = head; fits = c.in_ok-head.ensures.fits; is = n.0; has = took.has })
