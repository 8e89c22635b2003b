use Rattle.std.proofs.Common.{◌≡◌, ◌+◌, ◌-◌, ◌^◌, ◌<◌, length, refl, arith}
use Rattle.std.proofs.lemmas.Result.{err_from_is_err_and}
use Rattle.site_store.specs.Words.{no_access, writes_of_one}
use Rattle.repl_types.specs.declared.area.Area.TheVariants as areas
use Rattle.set_places.specs.laws.Commits.{commits_step}
use Rattle.target_steps.specs.Steps.{TakesAll, PutsTargets, PutsSomeTargets}
use Rattle.target_steps.proofs.StepReads.{reads_more, reads_still, counts_within}
use Rattle.target_steps.proofs.PutTargets.{StatePut, begin_fails, take_fails, take_undamaged, write_fails, source_closed, goes_state, goes_step, goes_some, commit_may}
use Rattle.target_steps.proofs.putting.put_step.Goals as goal

pub take_members-requires-clause-closed : goal.take_members-requires-clause-closed
take_members-requires-clause-closed g c = source_closed g.K.Keeper.kept g.T.Targets.takes g.T.Targets.shows c.args.sites.now c.begin.new.self c.args.set.now c.args.step c.requires.placed.target.within c.requires.closed c.in_ok-begin.ensures.ok c.requires.placed.apart

pub returns-in_err-begin-clause-fault : goal.returns-in_err-begin-clause-fault
returns-in_err-begin-clause-fault g c =
    let p = err_from_is_err_and c.from_residual.result c.from_residual.ensures.1 in
    rw (p.1, p.2) (begin_fails g.K.Keeper.kept g.T.Targets.takes g.T.Targets.shows c.args.sites.now c.begin.new.self c.args.set.now c.args.step c.requires.placed.target.within c.requires.closed (PutsSomeTargets g.K.Keeper.kept g.T.Targets.takes g.T.Targets.shows c.args.sites.now c.args.set.now c.args.step c.args.known.now) no_access c.in_err-begin.field-0.0 c.in_err-begin.ensures.fault)

pub returns-in_err-counts-clause-fault : goal.returns-in_err-counts-clause-fault
returns-in_err-counts-clause-fault g c =
    let p = err_from_is_err_and c.from_residual-in_err-counts.result c.from_residual-in_err-counts.ensures.1 in
    rw (p.1, p.2) (take_fails g.K.Keeper.kept g.T.Targets.takes g.T.Targets.shows c.args.sites.now c.begin.new.self c.args.set.now c.args.step c.requires.placed.target.within c.requires.closed c.in_ok-begin.ensures.ok (PutsSomeTargets g.K.Keeper.kept g.T.Targets.takes g.T.Targets.shows c.args.sites.now c.args.set.now c.args.step c.args.known.now) c.take_members.new.sites c.in_err-counts.field-0.0 c.in_err-counts.ensures.closed c.in_err-counts.ensures.fault)

pub returns-in_err-counts-clause-undamaged : goal.returns-in_err-counts-clause-undamaged
returns-in_err-counts-clause-undamaged g c =
    let p = err_from_is_err_and c.from_residual-in_err-counts.result c.from_residual-in_err-counts.ensures.1 in
    rw (p.1, p.2) (take_undamaged g.K.Keeper.kept g.T.Targets.takes g.T.Targets.shows c.args.sites.now c.begin.new.self c.args.set.now c.args.step c.requires.placed.target.within c.requires.closed c.in_ok-begin.ensures.ok c.in_err-counts.field-0.0 c.in_err-counts.ensures.undamaged)

pub returns-in_err-put-clause-fault : goal.returns-in_err-put-clause-fault
returns-in_err-put-clause-fault g c =
    let p = err_from_is_err_and c.from_residual-in_err-put.result c.from_residual-in_err-put.ensures.1 in
    rw (p.1, p.2) (write_fails g.K.Keeper.kept g.T.Targets.takes g.T.Targets.shows c.args.sites.now c.begin.new.self c.args.set.now c.args.step c.requires.placed.target.within c.requires.closed c.in_ok-begin.ensures.ok (PutsSomeTargets g.K.Keeper.kept g.T.Targets.takes g.T.Targets.shows c.args.sites.now c.args.set.now c.args.step c.args.known.now) (TakesAll g.K.Keeper.kept g.T.Targets.takes c.begin.new.self c.args.set.now c.args.step g.T.Targets.shows c.in_ok-counts.counts) c.take_members.new.sites c.put.new.self (writes_of_one 1 c.args.set.now.target areas.SetState) c.in_err-put.field-0.0 c.in_ok-counts.ensures.ok c.in_err-put.ensures.fault)

pub returns-in_err-put-2-clause-fault : goal.returns-in_err-put-2-clause-fault
returns-in_err-put-2-clause-fault g c =
    let kept = g.K.Keeper.kept in
    let takes = g.T.Targets.takes in
    let shows = g.T.Targets.shows in
    let set = c.args.set.now in
    let s0 = c.args.sites.now in
    let s1 = c.begin.new.self in
    let s2 = c.take_members.new.sites in
    let s3 = c.put.new.self in
    let next_is : c.args.known.now.entries < 2 ^ 64 - 1 → c.saturating_add-next.result ≡ c.args.known.now.entries + 1 = λ short. omega (arith, short, c.saturating_add-next.ensures) in
    let p = err_from_is_err_and c.from_residual-in_err-put-2.result c.from_residual-in_err-put-2.ensures.1 in
    rw (p.1, p.2) (write_fails kept takes shows s0 s1 set c.args.step c.requires.placed.target.within c.requires.closed c.in_ok-begin.ensures.ok (PutsSomeTargets kept takes shows s0 set c.args.step c.args.known.now)
    (StatePut kept takes shows s0 s1 set c.args.step c.requires.placed.target.within c.requires.closed c.in_ok-begin.ensures.ok c.args.known.now c.saturating_add-next.result c.in_ok-counts.counts c.state_after-state.result c.state_after-state.ensures.state next_is c.entry_after-entry.result c.entry_after-entry.ensures s2 s3 c.put-2.new.self c.in_ok-counts.ensures.ok c.in_ok-put.ensures.ok) s3 c.put-2.new.self (writes_of_one 1 set.target areas.Trail) c.in_err-put-2.field-0.0
    (goes_state kept takes shows s0 s1 set c.args.step c.requires.placed.target.within c.requires.closed c.in_ok-begin.ensures.ok c.args.known.now c.saturating_add-next.result c.in_ok-counts.counts c.state_after-state.result c.state_after-state.ensures.state next_is c.entry_after-entry.result c.entry_after-entry.ensures s2 s3 c.put-2.new.self c.in_ok-counts.ensures.ok c.in_ok-put.ensures.ok) c.in_err-put-2.ensures.fault)

pub returns-in_err-commit-clause-fault : goal.returns-in_err-commit-clause-fault
returns-in_err-commit-clause-fault g c =
    let kept = g.K.Keeper.kept in
    let takes = g.T.Targets.takes in
    let shows = g.T.Targets.shows in
    let set = c.args.set.now in
    let s0 = c.args.sites.now in
    let s1 = c.begin.new.self in
    let s2 = c.take_members.new.sites in
    let s3 = c.put.new.self in
    let s4 = c.put-2.new.self in
    let next_is : c.args.known.now.entries < 2 ^ 64 - 1 → c.saturating_add-next.result ≡ c.args.known.now.entries + 1 = λ short. omega (arith, short, c.saturating_add-next.ensures) in
    let p = err_from_is_err_and c.from_residual-in_err-commit.result c.from_residual-in_err-commit.ensures.1 in
    rw (p.1, p.2) (commit_may kept takes shows s0 s1 set c.args.step c.requires.placed.target.within c.requires.closed c.in_ok-begin.ensures.ok (PutsSomeTargets kept takes shows s0 set c.args.step c.args.known.now) s4 c.commit.new.self c.in_err-commit.field-0.0
    (goes_some kept takes shows s0 s1 set c.args.step c.requires.placed.target.within c.requires.closed c.in_ok-begin.ensures.ok c.args.known.now c.saturating_add-next.result c.in_ok-counts.counts c.state_after-state.result c.state_after-state.ensures.state next_is c.entry_after-entry.result c.entry_after-entry.ensures s2 s3 s4 c.in_ok-counts.ensures.ok c.in_ok-put.ensures.ok c.in_ok-put-2.ensures.ok) c.in_err-commit.ensures.fault)

pub returns-clause-ok : goal.returns-clause-ok
returns-clause-ok g c =
    let kept = g.K.Keeper.kept in
    let takes = g.T.Targets.takes in
    let shows = g.T.Targets.shows in
    let set = c.args.set.now in
    let s0 = c.args.sites.now in
    let s1 = c.begin.new.self in
    let s2 = c.take_members.new.sites in
    let s3 = c.put.new.self in
    let s4 = c.put-2.new.self in
    let next_is : c.args.known.now.entries < 2 ^ 64 - 1 → c.saturating_add-next.result ≡ c.args.known.now.entries + 1 = λ short. omega (arith, short, c.saturating_add-next.ensures) in
    commits_step kept s0 s1 set.target c.requires.placed.target.within c.requires.closed (PutsTargets kept takes shows s0 set c.args.step c.args.known.now c.in_ok-counts.counts) c.in_ok-begin.ensures.ok s4
    (goes_step kept takes shows s0 s1 set c.args.step c.requires.placed.target.within c.requires.closed c.in_ok-begin.ensures.ok c.args.known.now c.saturating_add-next.result c.in_ok-counts.counts c.state_after-state.result c.state_after-state.ensures.state next_is c.entry_after-entry.result c.entry_after-entry.ensures s2 s3 s4 c.in_ok-counts.ensures.ok c.in_ok-put.ensures.ok c.in_ok-put-2.ensures.ok) c.commit.new.self c.in_ok-commit.ensures.ok

pub returns-clause-reads : goal.returns-clause-reads
returns-clause-reads g c =
    let kept = g.K.Keeper.kept in
    let step = c.args.step in
    let s0 = c.args.sites.now in
    let s1 = c.begin.new.self in
    let s2 = c.take_members.new.sites in
    let s3 = c.put.new.self in
    let s4 = c.put-2.new.self in
    let s5 = c.commit.new.self in
    let target = c.args.set.now.target in
    reads_more step kept s0 s1 s5 (reads_still step kept s0 s1 no_access (λ s a. refl) c.in_ok-begin.ensures.ok.passes)
    (reads_more step kept s1 s2 s5 c.in_ok-counts.ensures.reads
    (reads_more step kept s2 s3 s5 (reads_still step kept s2 s3 (writes_of_one 1 target areas.SetState) (λ s a. refl) c.in_ok-put.ensures.ok.passes)
    (reads_more step kept s3 s4 s5 (reads_still step kept s3 s4 (writes_of_one 1 target areas.Trail) (λ s a. refl) c.in_ok-put-2.ensures.ok.passes)
    (reads_still step kept s4 s5 no_access (λ s a. refl) c.in_ok-commit.ensures.ok.passes))))

pub returns-clause-counted : goal.returns-clause-counted
returns-clause-counted g c =
    let kept = g.K.Keeper.kept in
    let s0 = c.args.sites.now in
    let s1 = c.begin.new.self in
    let s2 = c.take_members.new.sites in
    let s3 = c.put.new.self in
    let s4 = c.put-2.new.self in
    let s5 = c.commit.new.self in
    counts_within c.args.step kept s0 s1 s2 s5 (length c.args.set.now.at_source.def.members) c.in_ok-counts.counts
    (λ s. omega (arith, c.in_ok-begin.ensures.ok.passes.within.reads s areas.Cd))
    c.in_ok-counts.ensures.counted
    (λ s. omega (arith, c.in_ok-put.ensures.ok.passes.within.reads s areas.Cd, c.in_ok-put-2.ensures.ok.passes.within.reads s areas.Cd, c.in_ok-commit.ensures.ok.passes.within.reads s areas.Cd))
