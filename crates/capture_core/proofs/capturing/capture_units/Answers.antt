use Rattle.std.proofs.Common.{◌≡◌, ℕ, ◌+◌, ◌-◌, ◌<◌, true, sym, ◌∙◌, arith, min}
use Rattle.std.proofs.lemmas.Result.{err_from_is_err_and}
use Rattle.repl_types.specs.declared.area.Area.TheVariants as areas
use Rattle.cd_tables.specs.Reading.{ReadsNoLog}
use Rattle.capture_core.specs.Reading.{greatest, Counts}
use Rattle.capture_core.specs.declared.progress.Progress.{Progress}
use Rattle.capture_core.proofs.Elsewhere.{elsewhere_first, elsewhere_on, elsewhere_committed, elsewhere_doubted, elsewhere_ended, idle_ended}
use Rattle.capture_core.proofs.Ends.{begin_fails, read_fails, commit_fails, due_if_full, all_if_most, all_if_none, end_ok, end_err}
use Rattle.capture_core.proofs.Faults.{not_committed, not_begun}
use Rattle.capture_core.proofs.LogReads.{none_read, reads_on, each_then, further_on, none_further, reads_to_end}
use Rattle.capture_core.proofs.UnderWay.{IsCalled, starts, takes_unit, takes_all, next_batch}
use Rattle.capture_core.proofs.capturing.capture_units.Goals as goal

-- a unit was taken, so it isn't that none was
some_taken : (p q : Progress) → Counts true p q → q.units ≡ 0 → ⊥
some_taken p q counts few = few_no (p.units + 1) greatest (sym counts.0 ∙ few) (omega arith) (omega arith)
  where
    few_no : (m top : ℕ) → min m top ≡ 0 → 0 < m → 0 < top → ⊥
    few_no m top is more large = omega (arith, is, more, large)

pub returns-in_err-progress-clause-fault : goal.returns-in_err-progress-clause-fault
returns-in_err-progress-clause-fault g c =
    let kept = g.K.Keeper.kept in
    let s0 = c.args.sites.now in
    let n = c.args.server in
    let every = c.args.every in
    let most = c.args.most in
    let call : IsCalled kept s0 n every most = record { closed = c.requires.closed; lt = c.requires.server; some = c.requires.every; small = omega arith } in
    let e = err_from_is_err_and c.from_residual.result c.from_residual.ensures.1 in
    rw (e.1, e.2) (begin_fails kept s0 n every most call c.begin_capture.new.sites c.in_err-progress.field-0.0 c.in_err-progress.ensures.fault)

pub units-init : goal.units-init
units-init g c =
    let kept = g.K.Keeper.kept in
    let s0 = c.args.sites.now in
    let n = c.args.server in
    let every = c.args.every in
    let most = c.args.most in
    let call : IsCalled kept s0 n every most = record { closed = c.requires.closed; lt = c.requires.server; some = c.requires.every; small = omega arith } in
    let begins = c.in_ok-progress.ensures.start in
    record {
      way = starts kept s0 n every most call c.begin_capture.new.sites c.in_ok-progress.progress c.in_ok-progress.ensures.ok begins c.in_ok-progress.ensures.typed;
      each = none_read kept s0 c.begin_capture.new.sites n c.in_ok-progress.progress c.in_ok-progress.ensures.reads;
      batch = omega (arith, begins.waiting, call.some);
      idle = λ few. (c.in_ok-progress.ensures.ok.held, begins.waiting);
      apart = elsewhere_first kept n s0 c.begin_capture.new.sites c.in_ok-progress.ensures.ok.held;
    }

pub returns-in_err-take_unit-clause-fault : goal.returns-in_err-take_unit-clause-fault
returns-in_err-take_unit-clause-fault g c =
    let kept = g.K.Keeper.kept in
    let s0 = c.args.sites.now in
    let n = c.args.server in
    let every = c.args.every in
    let most = c.args.most in
    let call : IsCalled kept s0 n every most = record { closed = c.requires.closed; lt = c.requires.server; some = c.requires.every; small = omega arith } in
    let e = err_from_is_err_and c.from_residual-in_err-take_unit.result c.from_residual-in_err-take_unit.ensures.1 in
    rw (e.1, e.2) (read_fails kept s0 n every most call c.units.sites c.units.progress c.units.invariant.way c.take_unit.new.sites c.in_err-take_unit.field-0.0 c.in_err-take_unit.ensures.fault)

pub returns-then-not-branch-clause-ok : goal.returns-then-not-branch-clause-ok
returns-then-not-branch-clause-ok g c =
    let kept = g.K.Keeper.kept in
    let s0 = c.args.sites.now in
    let n = c.args.server in
    let every = c.args.every in
    let most = c.args.most in
    let call : IsCalled kept s0 n every most = record { closed = c.requires.closed; lt = c.requires.server; some = c.requires.every; small = omega arith } in
    let s1 = c.units.sites in
    let s2 = c.take_unit.new.sites in
    let p = c.units.progress in
    let q = c.take_unit.new.progress in
    let counts = rw c.if-not-branch.true at c.in_ok-take_unit.ensures.counts in
    let all = takes_all kept s0 n every most call s1 s2 p q c.units.invariant.way (rw c.if-not-branch.true at c.in_ok-take_unit.ensures.ok) c.in_ok-take_unit.ensures.typed counts in
    let less : q.waiting < every = omega (arith, counts.1, c.units.invariant.batch) in
    end_ok kept s0 n every most call s2 q all.0 (all_if_none kept s0 n every most call s2 q all.0 all.1) less c.end_capture.new.sites c.end_capture.result c.end_capture.ensures.none c.end_capture.ensures.some c.end_capture.ensures.answer

pub returns-then-not-branch-clause-fault : goal.returns-then-not-branch-clause-fault
returns-then-not-branch-clause-fault g c =
    let kept = g.K.Keeper.kept in
    let s0 = c.args.sites.now in
    let n = c.args.server in
    let every = c.args.every in
    let most = c.args.most in
    let call : IsCalled kept s0 n every most = record { closed = c.requires.closed; lt = c.requires.server; some = c.requires.every; small = omega arith } in
    let s1 = c.units.sites in
    let s2 = c.take_unit.new.sites in
    let p = c.units.progress in
    let q = c.take_unit.new.progress in
    let counts = rw c.if-not-branch.true at c.in_ok-take_unit.ensures.counts in
    let all = takes_all kept s0 n every most call s1 s2 p q c.units.invariant.way (rw c.if-not-branch.true at c.in_ok-take_unit.ensures.ok) c.in_ok-take_unit.ensures.typed counts in
    let less : q.waiting < every = omega (arith, counts.1, c.units.invariant.batch) in
    end_err kept s0 n every most call s2 q all.0 (all_if_none kept s0 n every most call s2 q all.0 all.1) less c.end_capture.new.sites c.end_capture.result c.end_capture.ensures.fault

pub returns-in_err-commit_units-clause-fault : goal.returns-in_err-commit_units-clause-fault
returns-in_err-commit_units-clause-fault g c =
    let kept = g.K.Keeper.kept in
    let s0 = c.args.sites.now in
    let n = c.args.server in
    let every = c.args.every in
    let most = c.args.most in
    let call : IsCalled kept s0 n every most = record { closed = c.requires.closed; lt = c.requires.server; some = c.requires.every; small = omega arith } in
    let s1 = c.units.sites in
    let s2 = c.take_unit.new.sites in
    let p = c.units.progress in
    let q = c.take_unit.new.progress in
    let way = takes_unit kept s0 n every most call s1 s2 p q c.units.invariant.way c.units.invariant.batch c.units-test.true (rw c.if-not-branch.false at c.in_ok-take_unit.ensures.ok) c.in_ok-take_unit.ensures.typed (rw c.if-not-branch.false at c.in_ok-take_unit.ensures.counts) in
    let full : q.waiting ≡ every = omega (arith, way.batch, c.if-progress-every.true) in
    let e = err_from_is_err_and c.from_residual-in_err-commit_units.result c.from_residual-in_err-commit_units.ensures.1 in
    rw (e.1, e.2) (commit_fails kept s0 n every most call s2 q way c.commit_units.new.sites c.in_err-commit_units.field-0.0 (due_if_full kept s0 n every most call s2 q way full) (not_committed kept s2 c.commit_units.new.sites n q.state c.in_err-commit_units.field-0.0 c.in_err-commit_units.ensures.fault))

pub returns-in_err-begin-clause-fault : goal.returns-in_err-begin-clause-fault
returns-in_err-begin-clause-fault g c =
    let kept = g.K.Keeper.kept in
    let s0 = c.args.sites.now in
    let n = c.args.server in
    let every = c.args.every in
    let most = c.args.most in
    let call : IsCalled kept s0 n every most = record { closed = c.requires.closed; lt = c.requires.server; some = c.requires.every; small = omega arith } in
    let s1 = c.units.sites in
    let s2 = c.take_unit.new.sites in
    let p = c.units.progress in
    let q = c.take_unit.new.progress in
    let way = takes_unit kept s0 n every most call s1 s2 p q c.units.invariant.way c.units.invariant.batch c.units-test.true (rw c.if-not-branch.false at c.in_ok-take_unit.ensures.ok) c.in_ok-take_unit.ensures.typed (rw c.if-not-branch.false at c.in_ok-take_unit.ensures.counts) in
    let full : q.waiting ≡ every = omega (arith, way.batch, c.if-progress-every.true) in
    let e = err_from_is_err_and c.from_residual-in_err-begin.result c.from_residual-in_err-begin.ensures.1 in
    let doubt = not_begun kept s2 c.commit_units.new.sites c.begin.new.self n q.state c.in_err-begin.field-0.0 c.in_ok-commit_units.ensures.ok c.in_err-begin.ensures.fault in
    rw (e.1, e.2) (commit_fails kept s0 n every most call s2 q way c.begin.new.self c.in_err-begin.field-0.0 (due_if_full kept s0 n every most call s2 q way full) doubt)

pub units-preserved-then-progress-every : goal.units-preserved-then-progress-every
units-preserved-then-progress-every g c =
    let kept = g.K.Keeper.kept in
    let s0 = c.args.sites.now in
    let n = c.args.server in
    let every = c.args.every in
    let most = c.args.most in
    let call : IsCalled kept s0 n every most = record { closed = c.requires.closed; lt = c.requires.server; some = c.requires.every; small = omega arith } in
    let s1 = c.units.sites in
    let s2 = c.take_unit.new.sites in
    let p = c.units.progress in
    let q = c.take_unit.new.progress in
    let way = takes_unit kept s0 n every most call s1 s2 p q c.units.invariant.way c.units.invariant.batch c.units-test.true (rw c.if-not-branch.false at c.in_ok-take_unit.ensures.ok) c.in_ok-take_unit.ensures.typed (rw c.if-not-branch.false at c.in_ok-take_unit.ensures.counts) in
    let full : q.waiting ≡ every = omega (arith, way.batch, c.if-progress-every.true) in
    let each = each_then kept s0 s1 s2 n c.in_ok-progress.progress p q c.units.invariant.each (rw c.if-not-branch.false at c.in_ok-take_unit.ensures.once) in
    let none : ReadsNoLog kept s2 c.begin.new.self = λ s. omega (arith, c.in_ok-commit_units.ensures.reads s, c.in_ok-begin.ensures.ok.passes.within.reads s areas.Log) in
    record {
      each = record { low = each.low; reads = reads_on kept s0 s2 c.begin.new.self n (q.read - c.in_ok-progress.progress.read) each.reads none };
      way = next_batch kept s0 n every most call s2 c.commit_units.new.sites c.begin.new.self q way full c.in_ok-commit_units.ensures.ok c.in_ok-begin.ensures.ok;
      batch = call.some;
      idle = λ few. absurd (some_taken p q (rw c.if-not-branch.false at c.in_ok-take_unit.ensures.counts) few);
      apart = elsewhere_on kept n s0 c.commit_units.new.sites c.begin.new.self (elsewhere_committed kept n s0 s2 c.commit_units.new.sites q.state (elsewhere_on kept n s0 s1 s2 c.units.invariant.apart c.in_ok-take_unit.ensures.ok.works.held) c.in_ok-commit_units.ensures.ok) c.in_ok-begin.ensures.ok.held;
    }

pub units-preserved : goal.units-preserved
units-preserved g c =
    let kept = g.K.Keeper.kept in
    let s0 = c.args.sites.now in
    let n = c.args.server in
    let every = c.args.every in
    let most = c.args.most in
    let call : IsCalled kept s0 n every most = record { closed = c.requires.closed; lt = c.requires.server; some = c.requires.every; small = omega arith } in
    let s1 = c.units.sites in
    let s2 = c.take_unit.new.sites in
    let p = c.units.progress in
    let q = c.take_unit.new.progress in
    let way = takes_unit kept s0 n every most call s1 s2 p q c.units.invariant.way c.units.invariant.batch c.units-test.true (rw c.if-not-branch.false at c.in_ok-take_unit.ensures.ok) c.in_ok-take_unit.ensures.typed (rw c.if-not-branch.false at c.in_ok-take_unit.ensures.counts) in
    let each = each_then kept s0 s1 s2 n c.in_ok-progress.progress p q c.units.invariant.each (rw c.if-not-branch.false at c.in_ok-take_unit.ensures.once) in
    record { each = each; way = way; batch = omega (arith, c.if-progress-every.false); idle = λ few. absurd (some_taken p q (rw c.if-not-branch.false at c.in_ok-take_unit.ensures.counts) few); apart = elsewhere_on kept n s0 s1 s2 c.units.invariant.apart c.in_ok-take_unit.ensures.ok.works.held }

pub returns-clause-ok : goal.returns-clause-ok
returns-clause-ok g c =
    let kept = g.K.Keeper.kept in
    let s0 = c.args.sites.now in
    let n = c.args.server in
    let every = c.args.every in
    let most = c.args.most in
    let call : IsCalled kept s0 n every most = record { closed = c.requires.closed; lt = c.requires.server; some = c.requires.every; small = omega arith } in
    let s1 = c.units.sites in
    let p = c.units.progress in
    let way = c.units.invariant.way in
    let all = all_if_most kept s0 n every most call s1 p way (omega (arith, c.units-test.false)) in
    end_ok kept s0 n every most call s1 p way all c.units.invariant.batch c.end_capture-2.new.sites c.end_capture-2.result c.end_capture-2.ensures.none c.end_capture-2.ensures.some c.end_capture-2.ensures.answer

pub returns-clause-fault : goal.returns-clause-fault
returns-clause-fault g c =
    let kept = g.K.Keeper.kept in
    let s0 = c.args.sites.now in
    let n = c.args.server in
    let every = c.args.every in
    let most = c.args.most in
    let call : IsCalled kept s0 n every most = record { closed = c.requires.closed; lt = c.requires.server; some = c.requires.every; small = omega arith } in
    let s1 = c.units.sites in
    let p = c.units.progress in
    let way = c.units.invariant.way in
    let all = all_if_most kept s0 n every most call s1 p way (omega (arith, c.units-test.false)) in
    end_err kept s0 n every most call s1 p way all c.units.invariant.batch c.end_capture-2.new.sites c.end_capture-2.result c.end_capture-2.ensures.fault

pub returns-in_err-take_unit-clause-reads : goal.returns-in_err-take_unit-clause-reads
returns-in_err-take_unit-clause-reads g c =
    let kept = g.K.Keeper.kept in
    let s0 = c.args.sites.now in
    let n = c.args.server in
    let every = c.args.every in
    let most = c.args.most in
    let call : IsCalled kept s0 n every most = record { closed = c.requires.closed; lt = c.requires.server; some = c.requires.every; small = omega arith } in
    let s1 = c.units.sites in
    let s2 = c.take_unit.new.sites in
    let first = c.in_ok-progress.progress in
    reads_to_end kept s0 n every most call c.begin_capture.new.sites s1 s2 first c.units.progress c.in_ok-progress.ensures.ok c.in_ok-progress.ensures.start c.units.invariant.way c.units.invariant.each c.in_err-take_unit.ensures.further

pub returns-then-not-branch-clause-reads : goal.returns-then-not-branch-clause-reads
returns-then-not-branch-clause-reads g c =
    let kept = g.K.Keeper.kept in
    let s0 = c.args.sites.now in
    let n = c.args.server in
    let every = c.args.every in
    let most = c.args.most in
    let call : IsCalled kept s0 n every most = record { closed = c.requires.closed; lt = c.requires.server; some = c.requires.every; small = omega arith } in
    let s1 = c.units.sites in
    let s2 = c.take_unit.new.sites in
    let first = c.in_ok-progress.progress in
    further_on kept s0 s2 c.end_capture.new.sites n (reads_to_end kept s0 n every most call c.begin_capture.new.sites s1 s2 first c.units.progress c.in_ok-progress.ensures.ok c.in_ok-progress.ensures.start c.units.invariant.way c.units.invariant.each c.in_ok-take_unit.ensures.further) c.end_capture.ensures.reads

pub returns-in_err-commit_units-clause-reads : goal.returns-in_err-commit_units-clause-reads
returns-in_err-commit_units-clause-reads g c =
    let kept = g.K.Keeper.kept in
    let s0 = c.args.sites.now in
    let n = c.args.server in
    let every = c.args.every in
    let most = c.args.most in
    let call : IsCalled kept s0 n every most = record { closed = c.requires.closed; lt = c.requires.server; some = c.requires.every; small = omega arith } in
    let s1 = c.units.sites in
    let s2 = c.take_unit.new.sites in
    let first = c.in_ok-progress.progress in
    further_on kept s0 s2 c.commit_units.new.sites n (reads_to_end kept s0 n every most call c.begin_capture.new.sites s1 s2 first c.units.progress c.in_ok-progress.ensures.ok c.in_ok-progress.ensures.start c.units.invariant.way c.units.invariant.each c.in_ok-take_unit.ensures.further) c.in_err-commit_units.ensures.reads

pub returns-in_err-begin-clause-reads : goal.returns-in_err-begin-clause-reads
returns-in_err-begin-clause-reads g c =
    let kept = g.K.Keeper.kept in
    let s0 = c.args.sites.now in
    let n = c.args.server in
    let every = c.args.every in
    let most = c.args.most in
    let call : IsCalled kept s0 n every most = record { closed = c.requires.closed; lt = c.requires.server; some = c.requires.every; small = omega arith } in
    let s1 = c.units.sites in
    let s2 = c.take_unit.new.sites in
    let first = c.in_ok-progress.progress in
    further_on kept s0 s2 c.begin.new.self n (reads_to_end kept s0 n every most call c.begin_capture.new.sites s1 s2 first c.units.progress c.in_ok-progress.ensures.ok c.in_ok-progress.ensures.start c.units.invariant.way c.units.invariant.each c.in_ok-take_unit.ensures.further) (λ s. omega (arith, c.in_ok-commit_units.ensures.reads s, c.in_err-begin.ensures.fault.closes.passes.within.reads s areas.Log))

pub returns-clause-reads : goal.returns-clause-reads
returns-clause-reads g c =
    let kept = g.K.Keeper.kept in
    let s0 = c.args.sites.now in
    let n = c.args.server in
    let every = c.args.every in
    let most = c.args.most in
    let call : IsCalled kept s0 n every most = record { closed = c.requires.closed; lt = c.requires.server; some = c.requires.every; small = omega arith } in
    let s1 = c.units.sites in
    let first = c.in_ok-progress.progress in
    further_on kept s0 s1 c.end_capture-2.new.sites n (reads_to_end kept s0 n every most call c.begin_capture.new.sites s1 s1 first c.units.progress c.in_ok-progress.ensures.ok c.in_ok-progress.ensures.start c.units.invariant.way c.units.invariant.each (none_further kept s1 n c.units.progress)) c.end_capture-2.ensures.reads

pub returns-in_err-progress-clause-apart : goal.returns-in_err-progress-clause-apart
returns-in_err-progress-clause-apart g c = elsewhere_first g.K.Keeper.kept c.args.server c.args.sites.now c.begin_capture.new.sites c.in_err-progress.ensures.fault.held

pub returns-in_err-take_unit-clause-apart : goal.returns-in_err-take_unit-clause-apart
returns-in_err-take_unit-clause-apart g c = elsewhere_on g.K.Keeper.kept c.args.server c.args.sites.now c.units.sites c.take_unit.new.sites c.units.invariant.apart c.in_err-take_unit.ensures.fault.held

pub returns-then-not-branch-clause-apart : goal.returns-then-not-branch-clause-apart
returns-then-not-branch-clause-apart g c =
    let kept = g.K.Keeper.kept in
    let n = c.args.server in
    let s0 = c.args.sites.now in
    let s2 = c.take_unit.new.sites in
    let q = c.take_unit.new.progress in
    elsewhere_ended kept n s0 s2 c.end_capture.new.sites q.waiting q.state c.end_capture.result (elsewhere_on kept n s0 c.units.sites s2 c.units.invariant.apart c.in_ok-take_unit.ensures.ok.works.held) c.end_capture.ensures.none c.end_capture.ensures.some c.end_capture.ensures.fault

pub returns-then-not-branch-clause-idle : goal.returns-then-not-branch-clause-idle
returns-then-not-branch-clause-idle g c =
    let kept = g.K.Keeper.kept in
    let q = c.take_unit.new.progress in
    let counts = rw c.if-not-branch.true at c.in_ok-take_unit.ensures.counts in
    idle_ended kept c.args.server c.args.sites.now c.take_unit.new.sites c.end_capture.new.sites q.waiting q.state.captured q.units q.rows c.end_capture.result
    (λ few. let so_far = c.units.invariant.idle (sym counts.0 ∙ few) in (c.in_ok-take_unit.ensures.ok.works.held ∙ so_far.0, counts.1 ∙ so_far.1))
    c.end_capture.ensures.none c.end_capture.ensures.answer

pub returns-in_err-commit_units-clause-apart : goal.returns-in_err-commit_units-clause-apart
returns-in_err-commit_units-clause-apart g c =
    let kept = g.K.Keeper.kept in
    let n = c.args.server in
    let s0 = c.args.sites.now in
    let s2 = c.take_unit.new.sites in
    elsewhere_doubted kept n s0 s2 c.commit_units.new.sites c.take_unit.new.progress.state c.in_err-commit_units.field-0.0 (elsewhere_on kept n s0 c.units.sites s2 c.units.invariant.apart c.in_ok-take_unit.ensures.ok.works.held) c.in_err-commit_units.ensures.fault

pub returns-in_err-begin-clause-apart : goal.returns-in_err-begin-clause-apart
returns-in_err-begin-clause-apart g c =
    let kept = g.K.Keeper.kept in
    let n = c.args.server in
    let s0 = c.args.sites.now in
    let s2 = c.take_unit.new.sites in
    elsewhere_on kept n s0 c.commit_units.new.sites c.begin.new.self (elsewhere_committed kept n s0 s2 c.commit_units.new.sites c.take_unit.new.progress.state (elsewhere_on kept n s0 c.units.sites s2 c.units.invariant.apart c.in_ok-take_unit.ensures.ok.works.held) c.in_ok-commit_units.ensures.ok) c.in_err-begin.ensures.fault.closes.held

pub returns-clause-apart : goal.returns-clause-apart
returns-clause-apart g c =
    let p = c.units.progress in
    elsewhere_ended g.K.Keeper.kept c.args.server c.args.sites.now c.units.sites c.end_capture-2.new.sites p.waiting p.state c.end_capture-2.result c.units.invariant.apart c.end_capture-2.ensures.none c.end_capture-2.ensures.some c.end_capture-2.ensures.fault

pub returns-clause-idle : goal.returns-clause-idle
returns-clause-idle g c =
    let p = c.units.progress in
    idle_ended g.K.Keeper.kept c.args.server c.args.sites.now c.units.sites c.end_capture-2.new.sites p.waiting p.state.captured p.units p.rows c.end_capture-2.result c.units.invariant.idle c.end_capture-2.ensures.none c.end_capture-2.ensures.answer
