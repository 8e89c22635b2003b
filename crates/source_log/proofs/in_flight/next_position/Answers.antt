use Rattle.std.proofs.Common.{false, arith, Some, None}
use Rattle.std.proofs.lemmas.Result.{err_from_is_err_and}
use Rattle.world_store.specs.Words.{differ_numbers, Any, in_flight_key_spelling, IsInFlightKey, in_flight_spelling}
use Rattle.site_store.specs.Words.{IsNextKey, IsLastKey, reads_of_one, sees, next_breaks, if_seen}
use Rattle.repl_types.specs.declared.area.Area.TheVariants as areas
use Rattle.source_log.specs.Reading.{IsNextPosition}
use Rattle.source_log.specs.Rules.{rules, flight_key}
use Rattle.source_log.proofs.Flights.{none_last, none_past, next_at, position_above}
use Rattle.source_log.proofs.in_flight.next_position.Goals as goal

pub returns-in_err-key-clause-fault : goal.returns-in_err-key-clause-fault
returns-in_err-key-clause-fault g c =
    let p = err_from_is_err_and c.from_residual.result c.from_residual.ensures.1 in
    rw (p.1, p.2) (next_breaks rules g.K.Keeper.kept IsInFlightKey in_flight_key_spelling Any in_flight_spelling c.args.sites.now c.next.new.self c.args.server areas.Inflight 0 (flight_key c.args.tx c.args.after) (reads_of_one 1 c.args.server areas.Inflight) c.in_err-key.field-0.0 (λ bytes h. h) (λ bytes h. h) c.in_err-key.ensures.fault)

pub returns-in_default-clause-next : goal.returns-in_default-clause-next
returns-in_default-clause-next g c = if_seen (sees g.K.Keeper.kept c.args.sites.now c.args.server) (λ d. IsLastKey (d areas.Inflight 0) (flight_key c.args.tx c.args.after)) (IsNextPosition c.args.tx c.args.after None) (λ d last. none_last c.args.tx c.args.after d (omega arith) last) (rw c.in_default.is at c.in_ok-key.ensures.row)

pub returns-then-key-tx-clause-next : goal.returns-then-key-tx-clause-next
returns-then-key-tx-clause-next g c = if_seen (sees g.K.Keeper.kept c.args.sites.now c.args.server) (λ d. IsNextKey (d areas.Inflight 0) (flight_key c.args.tx c.args.after) (in_flight_key_spelling c.in-Some.key) (in_flight_spelling c.in-Some._row)) (IsNextPosition c.args.tx c.args.after None) (λ d next. none_past c.args.tx c.args.after c.in-Some.key c.in-Some._row d (omega arith) (rw c.in-Some.is at c.in_ok-key.ensures.rises).fits (differ_numbers c.in-Some.key.tx c.args.tx c.if-key-tx.true) next) (rw c.in-Some.is at c.in_ok-key.ensures.row)

pub returns-clause-next : goal.returns-clause-next
returns-clause-next g c =
    let rises = rw c.in-Some.is at c.in_ok-key.ensures.rises in
    let above = position_above c.args.tx c.args.after c.in-Some.key c.if-key-tx.false (omega arith) rises.fits rises.above in
    if_seen (sees g.K.Keeper.kept c.args.sites.now c.args.server) (λ d. IsNextKey (d areas.Inflight 0) (flight_key c.args.tx c.args.after) (in_flight_key_spelling c.in-Some.key) (in_flight_spelling c.in-Some._row)) (IsNextPosition c.args.tx c.args.after (Some c.in-Some.key.pos)) (λ d next. next_at c.args.tx c.args.after c.in-Some.key c.in-Some._row d (omega arith) rises.fits above.0 c.if-key-tx.false next) (rw c.in-Some.is at c.in_ok-key.ensures.row)

pub returns-clause-rises : goal.returns-clause-rises
returns-clause-rises g c =
    let rises = rw c.in-Some.is at c.in_ok-key.ensures.rises in
    position_above c.args.tx c.args.after c.in-Some.key c.if-key-tx.false (omega arith) rises.fits rises.above
