use Rattle.std.proofs.Common.{Some, None, ◌≢◌, [], refl, sym, subst, arith}
use Rattle.std.proofs.lemmas.Result.{err_from_is_err_and}
use Rattle.world_store.specs.Words.{IsChangeKey, CdKey}
use Rattle.site_store.specs.Words.{work, sees, goes_none, goes_then}
use Rattle.cd_tables.specs.laws.ChangeKeys.{rank_rises, rank_small}
use Rattle.apply_copies.specs.ChangeRules.{change_source_rules}
use Rattle.apply_copies.specs.Changing.{source_as, TakesNext, TakesAll}
use Rattle.target_steps.specs.Taking.{counts_of}
use Rattle.apply_copies.proofs.ChangeReads.{counted_next, counted_all}
use Rattle.apply_copies.proofs.ChangesInTurn.{HasTaken, taken_none, taken_next, taken_all}
use Rattle.apply_copies.proofs.Elsewhere.{open_elsewhere, sees_elsewhere, breaks_elsewhere}
use Rattle.apply_copies.proofs.taking.take_changes.Goals as goal

pub loop-next-init : goal.loop-next-init
loop-next-init g c =
    let kept = g.K.Keeper.kept in
    let set = c.args.set.now in
    let source = c.args.source.now in
    let saw = sees kept c.args.sites.now set.source in
    let P = λ (after : CdKey). HasTaken saw source.reg.number c.args.number (source_as source) c.args.member.now c.args.from c.args.upto after (counts_of []) in
    record {
      fits = c.start_of-after.ensures.fits;
      goes = goes_none kept c.args.sites.now set.target (P c.start_of-after.result) c.requires.open (λ d. subst (λ (k : CdKey). P k d d) (sym c.start_of-after.ensures.is) (taken_none saw source.reg.number c.args.number (source_as source) c.args.member.now c.args.from c.args.upto (counts_of []) d refl));
      reads = λ s a none. omega arith;
      counted = λ short s. omega arith;
    }

pub returns-in_err-next-clause-fault : goal.returns-in_err-next-clause-fault
returns-in_err-next-clause-fault g c =
    let kept = g.K.Keeper.kept in
    let set = c.args.set.now in
    let source = c.args.source.now in
    let p = err_from_is_err_and c.from_residual.result c.from_residual.ensures.1 in
    let P = HasTaken (sees kept c.args.sites.now set.source) source.reg.number c.args.number (source_as source) c.args.member.now c.args.from c.args.upto c.loop-next.after c.loop-next.counts in
    let ne : set.source ≢ set.target = open_elsewhere (work kept c.args.sites.now) set.target set.source c.requires.open c.requires.closed in
    rw (p.1, p.2) (breaks_elsewhere kept c.args.sites.now c.loop-next.sites set.target set.source P ne c.loop-next.invariant.goes change_source_rules c.take_next.new.sites c.in_err-next.field-0.0 c.in_err-next.ensures.fault)

pub returns-in_default-clause-ok : goal.returns-in_default-clause-ok
returns-in_default-clause-ok g c =
    let kept = g.K.Keeper.kept in
    let set = c.args.set.now in
    let source = c.args.source.now in
    let table = source.reg.number in
    let saw = sees kept c.args.sites.now set.source in
    let member = c.args.member.now in
    let after = c.loop-next.after in
    let counts = c.loop-next.counts in
    let P = HasTaken saw table c.args.number (source_as source) member c.args.from c.args.upto after counts in
    let ne : set.source ≢ set.target = open_elsewhere (work kept c.args.sites.now) set.target set.source c.requires.open c.requires.closed in
    goes_then kept c.args.sites.now c.loop-next.sites c.take_next.new.sites set.target P (TakesNext saw table c.args.number (source_as source) member after c.args.upto None) (TakesAll saw table c.args.number (source_as source) member c.args.from c.args.upto counts) c.requires.open c.loop-next.invariant.goes (rw (c.in_default.is, sees_elsewhere kept c.args.sites.now c.loop-next.sites set.target set.source P ne c.loop-next.invariant.goes) at c.in_ok-next.ensures.ok) (λ d e f taken last. taken_all saw table c.args.number (source_as source) member c.args.from c.args.upto after counts d e f (subst IsChangeKey c.start_of-after.ensures.is c.start_of-after.ensures.fits) taken last)

pub loop-next-smaller : goal.loop-next-smaller
loop-next-smaller g c =
    let later = rw c.in-Some.is at c.in_ok-next.ensures.rises in
    omega (arith, rank_rises (Some c.loop-next.after) c.in-Some.key c.loop-next.invariant.fits later.fits later.above, rank_small (Some c.in-Some.key) later.fits)

pub loop-next-preserved : goal.loop-next-preserved
loop-next-preserved g c =
    let kept = g.K.Keeper.kept in
    let set = c.args.set.now in
    let source = c.args.source.now in
    let table = source.reg.number in
    let saw = sees kept c.args.sites.now set.source in
    let member = c.args.member.now in
    let after = c.loop-next.after in
    let counts = c.loop-next.counts in
    let key = c.in-Some.key in
    let op = c.in-Some.op in
    let more = c.counted-counts.result in
    let P = HasTaken saw table c.args.number (source_as source) member c.args.from c.args.upto after counts in
    let ne : set.source ≢ set.target = open_elsewhere (work kept c.args.sites.now) set.target set.source c.requires.open c.requires.closed in
    let later = rw c.in-Some.is at c.in_ok-next.ensures.rises in
    record {
      fits = later.fits;
      goes = goes_then kept c.args.sites.now c.loop-next.sites c.take_next.new.sites set.target P (TakesNext saw table c.args.number (source_as source) member after c.args.upto (Some (key, op))) (HasTaken saw table c.args.number (source_as source) member c.args.from c.args.upto key more) c.requires.open c.loop-next.invariant.goes (rw (c.in-Some.is, sees_elsewhere kept c.args.sites.now c.loop-next.sites set.target set.source P ne c.loop-next.invariant.goes) at c.in_ok-next.ensures.ok) (λ d e f taken next. taken_next saw table c.args.number (source_as source) member c.args.from c.args.upto after key op counts more d e f c.counted-counts.ensures taken next);
      reads = λ s a none. omega (arith, c.loop-next.invariant.reads s a none, c.in_ok-next.ensures.reads s a none);
      counted = counted_next kept c.args.sites.now c.loop-next.sites c.take_next.new.sites op counts more c.counted-counts.ensures c.loop-next.invariant.counted c.in_ok-next.ensures.once;
    }

pub returns-in_default-clause-counted : goal.returns-in_default-clause-counted
returns-in_default-clause-counted g c = counted_all g.K.Keeper.kept c.args.sites.now c.loop-next.sites c.take_next.new.sites c.loop-next.counts c.loop-next.invariant.counted c.in_ok-next.ensures.once
