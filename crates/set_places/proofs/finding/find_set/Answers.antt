use Rattle.std.proofs.Common.{arith}
use Rattle.std.proofs.lemmas.Result.{err_from_is_err_and}
use Rattle.site_store.specs.Words.{looks_none, looks_then}
use Rattle.set_places.proofs.FindFaults.{stops_later, stops_undamaged}
use Rattle.set_places.proofs.FoundSets.{none_at_all, none_before_next}
use Rattle.set_places.proofs.finding.find_set.Goals as goal

pub loop-target-init : goal.loop-target-init
loop-target-init g c = record {
  looks = looks_none g.K.Keeper.kept c.args.sites.now;
  reads = λ s a other. omega arith;
  none = λ w stands m lt. absurd (omega arith);
}

pub returns-in_err-set-clause-fault : goal.returns-in_err-set-clause-fault
returns-in_err-set-clause-fault g c =
    let p = err_from_is_err_and c.from_residual.result c.from_residual.ensures.1 in
    rw (p.1, p.2) (stops_later g.K.Keeper.kept c.args.sites.now c.loop-target.sites c.find_at.new.sites c.in_err-set.field-0.0 c.loop-target.invariant.looks c.in_err-set.ensures.fault)

pub returns-in_err-set-clause-undamaged : goal.returns-in_err-set-clause-undamaged
returns-in_err-set-clause-undamaged g c =
    let p = err_from_is_err_and c.from_residual.result c.from_residual.ensures.1 in
    rw (p.1, p.2) (stops_undamaged g.K.Keeper.kept c.args.sites.now c.find_at.new.sites c.in_err-set.field-0.0 c.requires.closed (stops_later g.K.Keeper.kept c.args.sites.now c.loop-target.sites c.find_at.new.sites c.in_err-set.field-0.0 c.loop-target.invariant.looks c.in_err-set.ensures.fault))

pub returns-in-Some-clause-ok : goal.returns-in-Some-clause-ok
returns-in-Some-clause-ok g c = looks_then g.K.Keeper.kept c.args.sites.now c.loop-target.sites c.find_at.new.sites c.loop-target.invariant.looks c.in_ok-set.ensures.ok

pub loop-target-preserved : goal.loop-target-preserved
loop-target-preserved g c = record {
  looks = looks_then g.K.Keeper.kept c.args.sites.now c.loop-target.sites c.find_at.new.sites c.loop-target.invariant.looks c.in_ok-set.ensures.ok;
  reads = λ s a other. omega (arith, c.loop-target.invariant.reads s a other, c.in_ok-set.ensures.reads s a other);
  none = none_before_next g.K.Keeper.kept c.args.sites.now c.loop-target.sites c.args.id.now c.loop-target.target c.loop-target.invariant.looks c.loop-target.invariant.none (rw c.in_default.is at c.in_ok-set.ensures.known);
}

pub returns-clause-known : goal.returns-clause-known
returns-clause-known g c = none_at_all g.K.Keeper.kept c.args.sites.now c.requires.closed c.args.id.now (λ w stands m lt. c.loop-target.invariant.none w stands m (omega (arith, lt, c.loop-target-test.false, c.len-target-end.ensures.count)))
