use Rattle.std.proofs.Common.{◌≡◌, ℕ, ◌<◌, length, ap, subst, arith}
use Rattle.std.proofs.lemmas.Result.{err_from_is_err_and}
use Rattle.target_steps.specs.Taking.{CountsReads}
use Rattle.target_steps.proofs.StepReads.{reads_none, reads_more, counts_none, counts_more}
use Rattle.target_steps.proofs.TakeSteps.{starts, open_on, closed_on, placed_on, within_on, take_stops, goes_more, take_undamaged, goes_all}
use Rattle.target_steps.proofs.putting.take_members.Goals as goal

pub loop-member-init : goal.loop-member-init
loop-member-init g c = (starts g.K.Keeper.kept g.T.Targets.takes g.T.Targets.shows c.args.sites.now c.args.set.now c.args.step c.requires.open c.requires.closed, reads_none c.args.step g.K.Keeper.kept c.args.sites.now, counts_none c.args.step g.K.Keeper.kept c.args.sites.now)

pub take-requires-clause-source : goal.take-requires-clause-source
take-requires-clause-source g c = placed_on g.K.Keeper.kept g.T.Targets.takes g.T.Targets.shows c.args.sites.now c.args.set.now c.args.step c.requires.open c.requires.closed c.loop-member.sites c.loop-member.member c.loop-member.counts c.loop-member.invariant.0 c.requires.source

pub take-requires-clause-target : goal.take-requires-clause-target
take-requires-clause-target g c = within_on g.K.Keeper.kept g.T.Targets.takes g.T.Targets.shows c.args.sites.now c.args.set.now c.args.step c.requires.open c.requires.closed c.loop-member.sites c.loop-member.member c.loop-member.counts c.loop-member.invariant.0 c.requires.target

pub take-requires-clause-open : goal.take-requires-clause-open
take-requires-clause-open g c = open_on g.K.Keeper.kept g.T.Targets.takes g.T.Targets.shows c.args.sites.now c.args.set.now c.args.step c.requires.open c.requires.closed c.loop-member.sites c.loop-member.member c.loop-member.counts c.loop-member.invariant.0

pub take-requires-clause-closed : goal.take-requires-clause-closed
take-requires-clause-closed g c = closed_on g.K.Keeper.kept g.T.Targets.takes g.T.Targets.shows c.args.sites.now c.args.set.now c.args.step c.requires.open c.requires.closed c.loop-member.sites c.loop-member.member c.loop-member.counts c.loop-member.invariant.0

pub returns-in_err-more-clause-fault : goal.returns-in_err-more-clause-fault
returns-in_err-more-clause-fault g c =
    let p = err_from_is_err_and c.from_residual.result c.from_residual.ensures.1 in
    rw (p.1, p.2) (take_stops g.K.Keeper.kept g.T.Targets.takes g.T.Targets.shows c.args.sites.now c.args.set.now c.args.step c.requires.open c.requires.closed c.loop-member.sites c.loop-member.member c.loop-member.counts c.loop-member.invariant.0 c.take.new.sites c.in_err-more.field-0.0 g.met.T.Targets.unseen c.in_err-more.ensures.fault)

pub returns-in_err-more-clause-undamaged : goal.returns-in_err-more-clause-undamaged
returns-in_err-more-clause-undamaged g c =
    let within : c.loop-member.member < length c.args.set.now.at_source.def.members = omega (arith, ap length c.as_slice.ensures) in
    let p = err_from_is_err_and c.from_residual.result c.from_residual.ensures.1 in
    rw (p.1, p.2) (take_undamaged g.K.Keeper.kept g.T.Targets.takes g.T.Targets.shows c.args.sites.now c.args.set.now c.args.step c.requires.open c.requires.closed c.loop-member.sites c.loop-member.member c.loop-member.counts c.loop-member.invariant.0 g.met.T.Targets.unnumbered within c.in_err-more.field-0.0 c.in_err-more.ensures.undamaged)

pub returns-in_err-more-clause-reads : goal.returns-in_err-more-clause-reads
returns-in_err-more-clause-reads g c = reads_more c.args.step g.K.Keeper.kept c.args.sites.now c.loop-member.sites c.take.new.sites c.loop-member.invariant.1 c.in_err-more.ensures.reads

pub loop-member-preserved : goal.loop-member-preserved
loop-member-preserved g c =
    let within : c.loop-member.member < length c.args.set.now.at_source.def.members = omega (arith, ap length c.as_slice.ensures) in (
      goes_more g.K.Keeper.kept g.T.Targets.takes g.T.Targets.shows c.args.sites.now c.args.set.now c.args.step c.requires.open c.requires.closed c.loop-member.sites c.loop-member.member c.loop-member.counts c.loop-member.invariant.0 g.met.T.Targets.unnumbered within c.take.new.sites c.in_ok-more.more c.sum-counts.result c.sum-counts.ensures c.in_ok-more.ensures.ok,
      reads_more c.args.step g.K.Keeper.kept c.args.sites.now c.loop-member.sites c.take.new.sites c.loop-member.invariant.1 c.in_ok-more.ensures.reads,
      counts_more c.args.step g.K.Keeper.kept c.args.sites.now c.loop-member.sites c.take.new.sites c.loop-member.member c.loop-member.counts c.in_ok-more.more c.sum-counts.result c.sum-counts.ensures c.loop-member.invariant.2 c.in_ok-more.ensures.counted,
    )

pub returns-clause-ok : goal.returns-clause-ok
returns-clause-ok g c = goes_all g.K.Keeper.kept g.T.Targets.takes g.T.Targets.shows c.args.sites.now c.args.set.now c.args.step c.requires.open c.requires.closed c.loop-member.sites c.loop-member.counts c.loop-member.member (omega (arith, ap length c.as_slice.ensures)) c.loop-member.invariant.0

pub returns-clause-counted : goal.returns-clause-counted
returns-clause-counted g c =
    let all : c.loop-member.member ≡ length c.args.set.now.at_source.def.members = omega (arith, ap length c.as_slice.ensures) in
    subst (λ (n : ℕ). CountsReads c.args.step n g.K.Keeper.kept c.args.sites.now c.loop-member.sites c.loop-member.counts) all c.loop-member.invariant.2
