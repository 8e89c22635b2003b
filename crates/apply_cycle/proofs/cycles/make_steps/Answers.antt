use Rattle.std.proofs.Common.{◌≡◌, ◌∙◌, ◌≤◌, [], ◌∷◌, ◌++◌, inr, refl, sym, arith, append-nil}
use Rattle.std.proofs.lemmas.Result.{err_from_is_err_and}
use Rattle.site_store.specs.Words.{keeps_itself, keeps_then}
use Rattle.apply_cycle.proofs.CycleSteps.{added_one, counted_one, counted_all, unread, some_made, none_made, stands_there, become_since, broken_since, goes_first, takes_there, same_set, goes_on, goes_never}
use Rattle.apply_cycle.proofs.cycles.make_steps.Goals as goal

pub loop-count-init : goal.loop-count-init
loop-count-init g c =
    let kept = g.K.Keeper.kept in
    let s0 = c.args.sites.now in
    record {
      adds = ([], sym (append-nil c.args.done.now), (refl, λ w stands each. goes_first kept g.T.Targets.takes s0 c.args.id.now c.args.most w stands each (c.requires.most w stands)));
      servers = keeps_itself kept s0 c.requires.closed;
    }

-- a step failed
pub returns-in_err-stepped-clause-fault : goal.returns-in_err-stepped-clause-fault
returns-in_err-stepped-clause-fault g c =
    let kept = g.K.Keeper.kept in
    let takes = g.T.Targets.takes in
    let s0 = c.args.sites.now in
    let s1 = c.loop-count.sites in
    let s2 = c.next_step.new.sites in
    let id = c.args.id.now in
    let inv = c.loop-count.invariant in
    let p = err_from_is_err_and c.from_residual.result c.from_residual.ensures.1 in
    rw (p.1, p.2) (
      inv.adds.0,
      inv.adds.1,
      λ w stands each.
          let goes = inv.adds.2.1 w stands each in (
            goes.v,
            goes.makes,
            broken_since kept s0 s1 s2 inv.servers.names id goes.v c.in_err-stepped.field-0.0
                (c.in_err-stepped.ensures.fault goes.v (stands_there kept s0 s1 s2 inv.servers.names goes.v goes.become) (takes_there kept takes s0 id c.args.most w s1 inv.adds.0 c.loop-count.count goes)),
          ),
    )

-- a step was made, and there was no memory for its answer
pub returns-in_err-push-in-Some-clause-fault : goal.returns-in_err-push-in-Some-clause-fault
returns-in_err-push-in-Some-clause-fault g c =
    let kept = g.K.Keeper.kept in
    let takes = g.T.Targets.takes in
    let s0 = c.args.sites.now in
    let s1 = c.loop-count.sites in
    let s2 = c.next_step.new.sites in
    let id = c.args.id.now in
    let inv = c.loop-count.invariant in
    let done_is : c.push.new.self ≡ c.args.done.now ++ inv.adds.0 = grind (arith, c.in_err-push-in-Some.ensures.items, inv.adds.1) in
    let p = err_from_is_err_and c.from_residual-in_err-push-in-Some.result c.from_residual-in_err-push-in-Some.ensures.1 in
    rw (p.1, p.2) (
      inv.adds.0,
      done_is,
      λ w stands each.
          let goes = inv.adds.2.1 w stands each in
          let one = some_made kept s1 s2 id goes.v c.in_ok-stepped.stepped c.in-Some.step (sym c.in-Some.ensures)
          (c.in_ok-stepped.ensures.ok goes.v (stands_there kept s0 s1 s2 inv.servers.names goes.v goes.become) (takes_there kept takes s0 id c.args.most w s1 inv.adds.0 c.loop-count.count goes)) in
          (goes.v, goes.makes, (inr (one.0, c.in-Some.step, one.1, become_since kept s0 s1 s2 inv.servers.names one.0 one.2), tt)),
    )

-- there was nothing to do
pub returns-in-None-clause-ok : goal.returns-in-None-clause-ok
returns-in-None-clause-ok g c =
    let kept = g.K.Keeper.kept in
    let takes = g.T.Targets.takes in
    let s0 = c.args.sites.now in
    let s1 = c.loop-count.sites in
    let s2 = c.next_step.new.sites in
    let id = c.args.id.now in
    let inv = c.loop-count.invariant in (
      inv.adds.0,
      inv.adds.1,
      λ w stands each.
          let goes = inv.adds.2.1 w stands each in
          let rests = none_made kept s1 s2 id goes.v c.in_ok-stepped.stepped (sym c.in-None.ensures)
          (c.in_ok-stepped.ensures.ok goes.v (stands_there kept s0 s1 s2 inv.servers.names goes.v goes.become) (takes_there kept takes s0 id c.args.most w s1 inv.adds.0 c.loop-count.count goes)) in
          (goes.v, goes.makes, become_since kept s0 s1 s2 inv.servers.names goes.v rests.0, rests.1),
    )

-- a step was made
pub loop-count-preserved : goal.loop-count-preserved
loop-count-preserved g c =
    let kept = g.K.Keeper.kept in
    let takes = g.T.Targets.takes in
    let s0 = c.args.sites.now in
    let s1 = c.loop-count.sites in
    let s2 = c.next_step.new.sites in
    let id = c.args.id.now in
    let step = c.in-Some.step in
    let inv = c.loop-count.invariant in
    let answers = inv.adds.0 in
    record {
      adds = (
        answers ++ step ∷ [],
        added_one c.args.done.now c.loop-count.done c.push.new.self answers step inv.adds.1 c.in_ok-push-in-Some.ensures.items,
        (
          counted_one answers step c.loop-count.count inv.adds.2.0,
          λ w stands each.
              let goes = inv.adds.2.1 w stands each in
              let one = some_made kept s1 s2 id goes.v c.in_ok-stepped.stepped step (sym c.in-Some.ensures)
              (c.in_ok-stepped.ensures.ok goes.v (stands_there kept s0 s1 s2 inv.servers.names goes.v goes.become) (takes_there kept takes s0 id c.args.most w s1 answers c.loop-count.count goes)) in
              goes_on kept takes s0 id c.args.most w s1 answers c.loop-count.count goes one.0 step one.1 (same_set kept takes s0 id c.args.most w s1 answers c.loop-count.count goes one.0 step one.1) s2 inv.servers.names one.2,
        ),
      );
      servers = keeps_then kept s0 s1 s2 inv.servers c.next_step.ensures.servers;
    }

-- so many were made, and none came to rest
pub returns-clause-fault : goal.returns-clause-fault
returns-clause-fault g c =
    let inv = c.loop-count.invariant in
    let le : c.args.most ≤ c.loop-count.count = omega (arith, c.loop-count-test.false) in
    (inv.adds.0, inv.adds.1, λ w stands each. absurd (goes_never g.K.Keeper.kept g.T.Targets.takes c.args.sites.now c.args.id.now c.args.most w c.loop-count.sites inv.adds.0 c.loop-count.count le (inv.adds.2.1 w stands each)))

pub returns-clause-cause : goal.returns-clause-cause
returns-clause-cause g c =
    let inv = c.loop-count.invariant in
    let all : c.loop-count.count ≡ c.args.most = omega (arith, c.loop-count-test.false, c.loop-count.auto.count-end) in
    (unread c.args.most _, (refl, refl, counted_all c.args.done.now c.loop-count.done inv.adds.0 c.args.most inv.adds.1 (inv.adds.2.0 ∙ all)))
