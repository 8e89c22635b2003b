use Rattle.std.proofs.Common.{◌≡◌, Some, ◌∙◌, ap}
use Rattle.std.proofs.lemmas.Result.{err_from_is_err_and}
use Rattle.world_store.specs.Words.{log_spelling, b64, in_flight_spelling}
use Rattle.site_store.specs.Words.{Contents, put_at, Sets, writes_of_one, put_fails, write_fails_on, goes_put, goes_then}
use Rattle.repl_types.specs.declared.area.Area.TheVariants as areas
use Rattle.source_log.specs.Rules.{flight_key}
use Rattle.source_log.proofs.taking.put_change.Goals as goal

pub returns-in_err-put-clause-fault : goal.returns-in_err-put-clause-fault
returns-in_err-put-clause-fault g c =
    let p = err_from_is_err_and c.from_residual.result c.from_residual.ensures.1 in
    rw (p.1, p.2) (put_fails g.K.Keeper.kept c.args.sites.now c.put.new.self c.args.server (writes_of_one 1 c.args.server areas.Log) c.in_err-put.field-0.0 c.in_err-put.ensures.fault)

pub returns-in_err-put-2-clause-fault : goal.returns-in_err-put-2-clause-fault
returns-in_err-put-2-clause-fault g c =
    let p = err_from_is_err_and c.from_residual-in_err-put-2.result c.from_residual-in_err-put-2.ensures.1 in
    rw (p.1, p.2) (write_fails_on g.K.Keeper.kept c.args.sites.now c.put.new.self c.put-2.new.self c.args.server (Sets areas.Log 0 (b64 c.args.pos) (Some (log_spelling c.args.logged.now))) c.in_err-put-2.field-0.0 (goes_put g.K.Keeper.kept c.args.sites.now c.put.new.self c.args.server areas.Log 0 (b64 c.args.pos) (Some (log_spelling c.args.logged.now)) c.in_ok-put.ensures.ok) (put_fails g.K.Keeper.kept c.put.new.self c.put-2.new.self c.args.server (writes_of_one 1 c.args.server areas.Inflight) c.in_err-put-2.field-0.0 c.in_err-put-2.ensures.fault))

pub returns-clause-ok : goal.returns-clause-ok
returns-clause-ok g c =
    let key = flight_key c.args.tx c.args.pos in
    let one = in_flight_spelling (record {}) in
    let row = log_spelling c.args.logged.now in
    let pos = b64 c.args.pos in
    goes_then g.K.Keeper.kept c.args.sites.now c.put.new.self c.put-2.new.self c.args.server (Sets areas.Log 0 pos (Some row)) (Sets areas.Inflight 0 key (Some one)) (λ d e. e ≡ put_at (put_at d areas.Log 0 pos (Some row)) areas.Inflight 0 key (Some one)) c.requires.open (goes_put g.K.Keeper.kept c.args.sites.now c.put.new.self c.args.server areas.Log 0 pos (Some row) c.in_ok-put.ensures.ok) (goes_put g.K.Keeper.kept c.put.new.self c.put-2.new.self c.args.server areas.Inflight 0 key (Some one) c.in_ok-put-2.ensures.ok) (λ d e f p q. q ∙ ap (λ (x : Contents). put_at x areas.Inflight 0 key (Some one)) p)
