use Rattle.std.proofs.Common.{ℕ, List, sym, subst, arith, Some, None}
use Rattle.std.proofs.lemmas.Result.{err_from_is_err_and}
use Rattle.site_store.specs.Words.{sees, breaks_after, memory_after, looks_none, looks_then, sees_back, if_seen, if_both_seen, any_seen}
use Rattle.source_log.specs.Reading.{IsNextPosition, ArePositions}
use Rattle.source_log.specs.Rules.{rules}
use Rattle.source_log.proofs.Flights.{SoFar, none_yet, one_more, all_found}
use Rattle.source_log.proofs.in_flight.positions_of.Goals as goal

pub loop-positions-init : goal.loop-positions-init
loop-positions-init g c = record {
  looks = looks_none g.K.Keeper.kept c.args.sites.now;
  so_far = if_seen (sees g.K.Keeper.kept c.args.sites.now c.args.server) (λ _. Unit {0}) (SoFar c.args.tx 0 c.new-positions.result) (λ d u. subst (λ (l : List ℕ). SoFar c.args.tx 0 l d) (sym c.new-positions.ensures) (none_yet c.args.tx d)) (any_seen (sees g.K.Keeper.kept c.args.sites.now c.args.server));
}

pub returns-in_err-pos-clause-fault : goal.returns-in_err-pos-clause-fault
returns-in_err-pos-clause-fault g c =
    let p = err_from_is_err_and c.from_residual.result c.from_residual.ensures.1 in
    rw (p.1, p.2) (breaks_after rules g.K.Keeper.kept c.args.sites.now c.loop-positions.sites c.next_position.new.sites c.args.server c.in_err-pos.field-0.0 c.loop-positions.invariant.looks c.in_err-pos.ensures.fault)

pub returns-in_err-push-clause-fault : goal.returns-in_err-push-clause-fault
returns-in_err-push-clause-fault g c =
    let p = err_from_is_err_and c.from_residual-in_err-push.result c.from_residual-in_err-push.ensures.1 in
    rw (p.1, p.2) (memory_after rules g.K.Keeper.kept c.args.sites.now c.next_position.new.sites c.args.server (looks_then g.K.Keeper.kept c.args.sites.now c.loop-positions.sites c.next_position.new.sites c.loop-positions.invariant.looks c.in_ok-pos.ensures.ok))

pub returns-in_default-clause-ok : goal.returns-in_default-clause-ok
returns-in_default-clause-ok g c = looks_then g.K.Keeper.kept c.args.sites.now c.loop-positions.sites c.next_position.new.sites c.loop-positions.invariant.looks c.in_ok-pos.ensures.ok

pub returns-in_default-clause-positions : goal.returns-in_default-clause-positions
returns-in_default-clause-positions g c =
    let kept = g.K.Keeper.kept in
    let s0 = c.args.sites.now in
    if_both_seen (sees kept s0 c.args.server) (SoFar c.args.tx c.loop-positions.last c.loop-positions.positions) (IsNextPosition c.args.tx c.loop-positions.last None) (ArePositions c.args.tx c.loop-positions.positions) (λ d so_far next. all_found c.args.tx c.loop-positions.last c.loop-positions.positions d (omega arith) so_far next) c.loop-positions.invariant.so_far (sees_back kept s0 c.loop-positions.sites c.args.server (IsNextPosition c.args.tx c.loop-positions.last None) c.loop-positions.invariant.looks (rw c.in_default.is at c.in_ok-pos.ensures.next))

pub loop-positions-preserved : goal.loop-positions-preserved
loop-positions-preserved g c =
    let kept = g.K.Keeper.kept in
    let s0 = c.args.sites.now in
    record {
      looks = looks_then kept s0 c.loop-positions.sites c.next_position.new.sites c.loop-positions.invariant.looks c.in_ok-pos.ensures.ok;
      so_far = if_both_seen (sees kept s0 c.args.server) (SoFar c.args.tx c.loop-positions.last c.loop-positions.positions) (IsNextPosition c.args.tx c.loop-positions.last (Some c.in-Some.pos)) (SoFar c.args.tx c.in-Some.pos c.push.new.self) (λ d so_far next. one_more c.args.tx c.loop-positions.last c.in-Some.pos c.loop-positions.positions c.push.new.self d c.in_ok-push.ensures.items so_far next) c.loop-positions.invariant.so_far (sees_back kept s0 c.loop-positions.sites c.args.server (IsNextPosition c.args.tx c.loop-positions.last (Some c.in-Some.pos)) c.loop-positions.invariant.looks (rw c.in-Some.is at c.in_ok-pos.ensures.next));
    }
