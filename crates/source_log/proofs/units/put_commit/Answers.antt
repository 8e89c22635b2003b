use Rattle.std.proofs.Common.{Some, ap, ◌∙◌}
use Rattle.std.proofs.lemmas.Result.{err_from_is_err_and}
use Rattle.world_store.specs.Words.{log_spelling, b64, single_spelling, head_spelling}
use Rattle.site_store.specs.Words.{Contents, put_at, Sets, writes_of_one, no_memory, put_fails, write_fails_on, goes_put, goes_then}
use Rattle.repl_model.specs.Words.{LogRecord}
use Rattle.repl_types.specs.declared.area.Area.TheVariants as areas
use Rattle.source_log.specs.Units.{PutsCommit}
use Rattle.source_log.proofs.units.put_commit.Goals as goal

pub returns-in_err-logged-clause-fault : goal.returns-in_err-logged-clause-fault
returns-in_err-logged-clause-fault g c =
    let p = err_from_is_err_and c.from_residual.result c.from_residual.ensures.1 in
    rw (p.1, p.2) (no_memory g.K.Keeper.kept c.args.sites.now (λ s a cause. ⊥))

pub returns-in_err-put-2-clause-fault : goal.returns-in_err-put-2-clause-fault
returns-in_err-put-2-clause-fault g c =
    let kept = g.K.Keeper.kept in
    let s0 = c.args.sites.now in
    let s1 = c.put.new.self in
    let key = b64 c.args.pos in
    let row = Some (log_spelling c.in_ok-logged.logged) in
    let e = c.in_err-put-2.field-0.0 in
    let p = err_from_is_err_and c.from_residual-in_err-put-2.result c.from_residual-in_err-put-2.ensures.1 in
    rw (p.1, p.2) (write_fails_on kept s0 s1 c.put-2.new.self c.args.server (Sets areas.Log 0 key row) e (goes_put kept s0 s1 c.args.server areas.Log 0 key row c.in_ok-put.ensures.ok) (put_fails kept s1 c.put-2.new.self c.args.server (writes_of_one 1 c.args.server areas.Head) e c.in_err-put-2.ensures.fault))

pub returns-clause-ok : goal.returns-clause-ok
returns-clause-ok g c =
    let kept = g.K.Keeper.kept in
    let s0 = c.args.sites.now in
    let s1 = c.put.new.self in
    let s2 = c.put-2.new.self in
    let pos = c.args.pos in
    let key = b64 pos in
    let row = Some (log_spelling c.in_ok-logged.logged) in
    let head = c.args.head.now in
    let single = single_spelling (record {}) in
    let end = Some (head_spelling (record { last = pos; commit = pos; time = head.time })) in
    goes_then kept s0 s1 s2 c.args.server (Sets areas.Log 0 key row) (Sets areas.Head 0 single end) (PutsCommit pos head) c.requires.open (goes_put kept s0 s1 c.args.server areas.Log 0 key row c.in_ok-put.ensures.ok) (goes_put kept s1 s2 c.args.server areas.Head 0 single end c.in_ok-put-2.ensures.ok)
    (λ d e f p q. q ∙ ap (λ (x : Contents). put_at x areas.Head 0 single end) (p ∙ ap (λ (r : LogRecord). put_at d areas.Log 0 key (Some (log_spelling r))) c.in_ok-logged.ensures))
