use Rattle.std.proofs.Common.{refl, ◌∙◌, arith, Some, None}
use Rattle.std.proofs.lemmas.Result.{err_from_is_err_and}
use Rattle.site_store.specs.Words.{breaks_on, goes_none, goes_as, goes_then}
use Rattle.capture_core.specs.Reading.{IsNextRecord, ReadsOn, ReadsAll, ReadsUnit, TakesNone, TakesOne}
use Rattle.capture_core.specs.Rules.{rules}
use Rattle.capture_core.proofs.Calls.{goes_read, same_shown}
use Rattle.capture_core.proofs.LogReads.{none_read, read_next, reads_on, reads_further}
use Rattle.capture_core.proofs.ReadLogs.{reads_none, reads_more, reads_unit, reads_all}
use Rattle.capture_core.proofs.reading.take_unit.Goals as goal

pub loop-pos-init : goal.loop-pos-init
loop-pos-init g c = record {
  typed = c.requires.typed;
  counts = (refl, refl);
  each = none_read g.K.Keeper.kept c.args.sites.now c.args.sites.now c.args.server c.args.progress.now (λ s. omega arith);
  goes = goes_none g.K.Keeper.kept c.args.sites.now c.args.server (ReadsOn c.args.progress.now c.args.progress.now) c.requires.open (reads_none c.args.progress.now);
}

pub returns-in_err-pos-clause-fault : goal.returns-in_err-pos-clause-fault
returns-in_err-pos-clause-fault g c =
    let p = err_from_is_err_and c.from_residual.result c.from_residual.ensures.1 in
    rw (p.1, p.2) (breaks_on rules g.K.Keeper.kept c.args.sites.now c.loop-pos.sites c.next_record.new.sites c.args.server (ReadsOn c.args.progress.now c.loop-pos.progress) c.in_err-pos.field-0.0 c.requires.open (λ d e on. same_shown d e on.same) c.loop-pos.invariant.goes c.in_err-pos.ensures.fault)

pub returns-in_default-clause-ok : goal.returns-in_default-clause-ok
returns-in_default-clause-ok g c =
    let kept = g.K.Keeper.kept in
    let s0 = c.args.sites.now in
    let p = c.args.progress.now in
    let q = c.loop-pos.progress in
    let saw = goes_read kept s0 c.loop-pos.sites c.next_record.new.sites c.args.server (ReadsOn p q) (IsNextRecord q.read None) c.requires.open c.loop-pos.invariant.goes c.in_ok-pos.ensures.ok (rw c.in_default.is at c.in_ok-pos.ensures.next) in
    goes_as kept s0 c.next_record.new.sites c.args.server (λ d e. ReadsOn p q d e × IsNextRecord q.read None e) (ReadsAll p q) c.requires.open saw (λ d e on. reads_all p q d e on.0 on.1)

pub returns-in_err-take_record-clause-fault : goal.returns-in_err-take_record-clause-fault
returns-in_err-take_record-clause-fault g c =
    let kept = g.K.Keeper.kept in
    let s0 = c.args.sites.now in
    let p = c.args.progress.now in
    let q = c.loop-pos.progress in
    let next = c.in_ok-pos.field-0 in
    let saw = goes_read kept s0 c.loop-pos.sites c.next_record.new.sites c.args.server (ReadsOn p q) (IsNextRecord q.read next) c.requires.open c.loop-pos.invariant.goes c.in_ok-pos.ensures.ok c.in_ok-pos.ensures.next in
    let e = err_from_is_err_and c.from_residual-in_err-take_record.result c.from_residual-in_err-take_record.ensures.1 in
    rw (e.1, e.2) (breaks_on rules kept s0 c.next_record.new.sites c.take_record.new.sites c.args.server (λ x y. ReadsOn p q x y × IsNextRecord q.read next y) c.in_err-take_record.field-0.0 c.requires.open (λ x y on. same_shown x y on.0.same) saw c.in_err-take_record.ensures.fault)

pub returns-then-branch-clause-ok : goal.returns-then-branch-clause-ok
returns-then-branch-clause-ok g c =
    let kept = g.K.Keeper.kept in
    let s0 = c.args.sites.now in
    let s2 = c.next_record.new.sites in
    let p = c.args.progress.now in
    let q = c.loop-pos.progress in
    let r = c.take_record.new.progress in
    let pos = c.in-Some.pos in
    let logged = c.in-Some.logged in
    let N = IsNextRecord q.read (Some (pos, logged)) in
    let saw = goes_read kept s0 c.loop-pos.sites s2 c.args.server (ReadsOn p q) N c.requires.open c.loop-pos.invariant.goes c.in_ok-pos.ensures.ok (rw c.in-Some.is at c.in_ok-pos.ensures.next) in
    goes_then kept s0 s2 c.take_record.new.sites c.args.server (λ x y. ReadsOn p q x y × N y) (TakesOne q r pos logged) (ReadsUnit p r) c.requires.open saw (rw c.if-branch.true at c.in_ok-take_record.ensures.ok) (λ x y z on takes. reads_unit p q r x y z pos logged on.0 (rw c.in-Some.is at c.in_ok-pos.ensures.rises) on.1 takes)

pub loop-pos-preserved : goal.loop-pos-preserved
loop-pos-preserved g c =
    let kept = g.K.Keeper.kept in
    let s0 = c.args.sites.now in
    let s2 = c.next_record.new.sites in
    let p = c.args.progress.now in
    let q = c.loop-pos.progress in
    let r = c.take_record.new.progress in
    let pos = c.in-Some.pos in
    let logged = c.in-Some.logged in
    let N = IsNextRecord q.read (Some (pos, logged)) in
    let saw = goes_read kept s0 c.loop-pos.sites s2 c.args.server (ReadsOn p q) N c.requires.open c.loop-pos.invariant.goes c.in_ok-pos.ensures.ok (rw c.in-Some.is at c.in_ok-pos.ensures.next) in
    let counts = rw c.if-branch.false at c.in_ok-take_record.ensures.counts in
    record {
      typed = c.in_ok-take_record.ensures.typed;
      counts = (counts.0 ∙ c.loop-pos.invariant.counts.0, counts.1 ∙ c.loop-pos.invariant.counts.1);
      each = read_next kept s0 c.loop-pos.sites c.take_record.new.sites c.args.server p q r c.loop-pos.invariant.each (reads_on kept c.loop-pos.sites s2 c.take_record.new.sites c.args.server 1 c.in_ok-pos.ensures.reads c.in_ok-take_record.ensures.reads) (omega (arith, c.in_ok-take_record.ensures.read, (rw c.in-Some.is at c.in_ok-pos.ensures.rises).above));
      goes = goes_then kept s0 s2 c.take_record.new.sites c.args.server (λ x y. ReadsOn p q x y × N y) (TakesNone q r pos logged) (ReadsOn p r) c.requires.open saw (rw c.if-branch.false at c.in_ok-take_record.ensures.ok) (λ x y z on takes. reads_more p q r x y z pos logged on.0 (rw c.in-Some.is at c.in_ok-pos.ensures.rises) on.1 takes);
    }

pub returns-in_err-pos-clause-further : goal.returns-in_err-pos-clause-further
returns-in_err-pos-clause-further g c = reads_further g.K.Keeper.kept c.args.sites.now c.loop-pos.sites c.next_record.new.sites c.args.server c.args.progress.now c.loop-pos.progress c.loop-pos.invariant.goes c.loop-pos.invariant.each c.in_err-pos.ensures.reads

pub returns-in_default-clause-further : goal.returns-in_default-clause-further
returns-in_default-clause-further g c = reads_further g.K.Keeper.kept c.args.sites.now c.loop-pos.sites c.next_record.new.sites c.args.server c.args.progress.now c.loop-pos.progress c.loop-pos.invariant.goes c.loop-pos.invariant.each c.in_ok-pos.ensures.reads

pub returns-in_err-take_record-clause-further : goal.returns-in_err-take_record-clause-further
returns-in_err-take_record-clause-further g c =
    let kept = g.K.Keeper.kept in
    let one = reads_on kept c.loop-pos.sites c.next_record.new.sites c.take_record.new.sites c.args.server 1 c.in_ok-pos.ensures.reads c.in_err-take_record.ensures.reads in
    reads_further kept c.args.sites.now c.loop-pos.sites c.take_record.new.sites c.args.server c.args.progress.now c.loop-pos.progress c.loop-pos.invariant.goes c.loop-pos.invariant.each one

pub returns-then-branch-clause-further : goal.returns-then-branch-clause-further
returns-then-branch-clause-further g c =
    let kept = g.K.Keeper.kept in
    let one = reads_on kept c.loop-pos.sites c.next_record.new.sites c.take_record.new.sites c.args.server 1 c.in_ok-pos.ensures.reads c.in_ok-take_record.ensures.reads in
    reads_further kept c.args.sites.now c.loop-pos.sites c.take_record.new.sites c.args.server c.args.progress.now c.loop-pos.progress c.loop-pos.invariant.goes c.loop-pos.invariant.each one
