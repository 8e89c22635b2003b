use Rattle.std.proofs.Common.{◌≡◌, List, ℕ, take, get_or, None, refl, ap, ◌∙◌, ◌+◌}
use Rattle.std.proofs.lemmas.Result.{err_from_is_err_and}
use Rattle.site_store.specs.Words.{Sets, writes_of_one, put_fails, write_fails_on, goes_none, goes_as, goes_put, goes_then}
use Rattle.repl_types.specs.declared.area.Area.TheVariants as areas
use Rattle.source_log.specs.Reading.{with_dropped}
use Rattle.source_log.specs.Rules.{flight_key}
use Rattle.source_log.proofs.Drops.{dropped_next, take_whole}
use Rattle.source_log.proofs.in_flight.drop_changes.Goals as goal

pub positions-init : goal.positions-init
positions-init g c = goes_none g.K.Keeper.kept c.args.sites.now c.args.server (λ d e. e ≡ d) c.requires.open (λ d. refl)

pub returns-in_err-remove-clause-fault : goal.returns-in_err-remove-clause-fault
returns-in_err-remove-clause-fault g c =
    let p = err_from_is_err_and c.from_residual.result c.from_residual.ensures.1 in
    rw (p.1, p.2) (write_fails_on g.K.Keeper.kept c.args.sites.now c.positions.sites c.remove.new.self c.args.server (λ d e. e ≡ with_dropped c.args.tx (take c.positions.pos-index c.args.positions.now) d) c.in_err-remove.field-0.0 c.positions.invariant (put_fails g.K.Keeper.kept c.positions.sites c.remove.new.self c.args.server (writes_of_one 1 c.args.server areas.Inflight) c.in_err-remove.field-0.0 c.in_err-remove.ensures.fault))

pub positions-preserved : goal.positions-preserved
positions-preserved g c =
    let i = c.positions.pos-index in
    let ps = c.args.positions.now in
    let key = flight_key c.args.tx (get_or ps i 0) in
    goes_then g.K.Keeper.kept c.args.sites.now c.positions.sites c.remove.new.self c.args.server (λ d e. e ≡ with_dropped c.args.tx (take i ps) d) (Sets areas.Inflight 0 key None) (λ d e. e ≡ with_dropped c.args.tx (take (i + 1) ps) d) c.requires.open c.positions.invariant (goes_put g.K.Keeper.kept c.positions.sites c.remove.new.self c.args.server areas.Inflight 0 key None c.in_ok-remove.ensures.ok) (λ d e f p q. dropped_next c.args.tx ps i d e f c.positions-test.true p q)

pub returns-clause-ok : goal.returns-clause-ok
returns-clause-ok g c =
    let ps = c.args.positions.now in
    goes_as g.K.Keeper.kept c.args.sites.now c.positions.sites c.args.server (λ d e. e ≡ with_dropped c.args.tx (take c.positions.pos-index ps) d) (λ d e. e ≡ with_dropped c.args.tx ps d) c.requires.open c.positions.invariant (λ d e p. p ∙ ap (λ (l : List ℕ). with_dropped c.args.tx l d) (take_whole ps c.positions.pos-index (c.positions-test.false)))
