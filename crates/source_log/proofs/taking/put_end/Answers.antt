use Rattle.std.proofs.Common.{◌≡◌, Some, ◌∙◌, ap}
use Rattle.std.proofs.lemmas.Result.{err_from_is_err_and}
use Rattle.world_store.specs.Words.{log_spelling, b64}
use Rattle.site_store.specs.Words.{Contents, put_at, Sets, writes_of_one, put_fails, write_fails_on, goes_put, goes_then}
use Rattle.repl_types.specs.declared.area.Area.TheVariants as areas
use Rattle.source_log.specs.Reading.{with_dropped}
use Rattle.source_log.proofs.taking.put_end.Goals as goal

pub returns-in_err-put-clause-fault : goal.returns-in_err-put-clause-fault
returns-in_err-put-clause-fault g c =
    let p = err_from_is_err_and c.from_residual.result c.from_residual.ensures.1 in
    rw (p.1, p.2) (put_fails g.K.Keeper.kept c.args.sites.now c.put.new.self c.args.server (writes_of_one 1 c.args.server areas.Log) c.in_err-put.field-0.0 c.in_err-put.ensures.fault)

pub returns-in_err-drop_changes-clause-fault : goal.returns-in_err-drop_changes-clause-fault
returns-in_err-drop_changes-clause-fault g c =
    let p = err_from_is_err_and c.from_residual-in_err-drop_changes.result c.from_residual-in_err-drop_changes.ensures.1 in
    rw (p.1, p.2) (write_fails_on g.K.Keeper.kept c.args.sites.now c.put.new.self c.drop_changes.new.sites c.args.server (Sets areas.Log 0 (b64 c.args.pos) (Some (log_spelling c.args.logged.now))) c.in_err-drop_changes.field-0.0 (goes_put g.K.Keeper.kept c.args.sites.now c.put.new.self c.args.server areas.Log 0 (b64 c.args.pos) (Some (log_spelling c.args.logged.now)) c.in_ok-put.ensures.ok) c.in_err-drop_changes.ensures.fault)

pub returns-clause-ok : goal.returns-clause-ok
returns-clause-ok g c =
    let row = log_spelling c.args.logged.now in
    let pos = b64 c.args.pos in
    goes_then g.K.Keeper.kept c.args.sites.now c.put.new.self c.drop_changes.new.sites c.args.server (Sets areas.Log 0 pos (Some row)) (λ d e. e ≡ with_dropped c.args.tx c.args.positions.now d) (λ d e. e ≡ with_dropped c.args.tx c.args.positions.now (put_at d areas.Log 0 pos (Some row))) c.requires.open (goes_put g.K.Keeper.kept c.args.sites.now c.put.new.self c.args.server areas.Log 0 pos (Some row) c.in_ok-put.ensures.ok) c.in_ok-drop_changes.ensures.ok (λ d e f p q. q ∙ ap (λ (x : Contents). with_dropped c.args.tx c.args.positions.now x) p)
