use Rattle.std.proofs.Common.{◌≡◌, ◌∙◌, inl, inr, ap}
use Rattle.std.proofs.lemmas.Result.{err_from_is_err_and}
use Rattle.world_store.specs.Words.{head_of}
use Rattle.site_store.specs.Words.{looks_none, looks_then}
use Rattle.repl_model.specs.Words.{after_action, refreshes}
use Rattle.subs_sets.specs.States.{state_in}
use Rattle.target_steps.specs.declared.step.Step.TheVariants.{Refresh}
use Rattle.target_steps.specs.Steps.{PutsTargets, PutsSomeTargets}
use Rattle.target_steps.specs.laws.AtServers.{unchanged, stepped_after, revealed_after, target_after, state_undamaged}
use Rattle.full_refresh.proofs.RefreshSteps.{put_blames}
use Rattle.full_refresh.proofs.Refreshed.{can_load, may_have_refreshed, has_answered}
use Rattle.full_refresh.proofs.SignalSteps.{seen_as, place_is}
use Rattle.full_refresh.proofs.refresh.refresh_step.Goals as goal

pub returns-in_err-end-clause-fault : goal.returns-in_err-end-clause-fault
returns-in_err-end-clause-fault g c =
    let kept = g.K.Keeper.kept in
    let s0 = c.args.sites.now in
    let s1 = c.last_commit.new.sites in
    let set = c.args.set.now in
    let e = c.in_err-end.field-0.0 in
    let p = err_from_is_err_and c.from_residual.result c.from_residual.ensures.1 in
    rw (p.1, p.2) (λ w k stands placed read_only next. unchanged kept set s0 s1 w (after_action w k refreshes) e c.in_err-end.ensures.fault.held stands (c.in_err-end.ensures.undamaged w (seen_as kept set s0 s0 c.requires.closed w k stands placed (looks_none kept s0))))

pub returns-in_err-known-clause-fault : goal.returns-in_err-known-clause-fault
returns-in_err-known-clause-fault g c =
    let kept = g.K.Keeper.kept in
    let takes = g.T.Targets.takes in
    let shows = g.T.Targets.shows in
    let s0 = c.args.sites.now in
    let s1 = c.last_commit.new.sites in
    let s2 = c.read_only_state.new.sites in
    let set = c.args.set.now in
    let e = c.in_err-known.field-0.0 in
    let f = c.in_err-known.ensures.fault in
    let first = c.in_ok-end.ensures.ok in
    let p = err_from_is_err_and c.from_residual-in_err-known.result c.from_residual-in_err-known.ensures.1 in
    rw (p.1, p.2) (λ w k stands placed read_only next. unchanged kept set s0 s2 w (after_action w k refreshes) e (f.held ∙ first.stays.held) stands (state_undamaged kept set s0 s1 c.requires.closed w k stands placed first s2 e f))

pub returns-in_err-counts-clause-fault : goal.returns-in_err-counts-clause-fault
returns-in_err-counts-clause-fault g c =
    let kept = g.K.Keeper.kept in
    let takes = g.T.Targets.takes in
    let shows = g.T.Targets.shows in
    let s0 = c.args.sites.now in
    let s1 = c.last_commit.new.sites in
    let s2 = c.read_only_state.new.sites in
    let set = c.args.set.now in
    let s3 = c.put_step.new.sites in
    let end = c.in_ok-end.end in
    let known = c.in_ok-known.known in
    let first = c.in_ok-end.ensures.ok in
    let looks = looks_then kept s0 s1 s2 first c.in_ok-known.ensures.ok in
    let e = c.in_err-counts.field-0.0 in
    let may = c.in_err-counts.ensures.fault in
    let p = err_from_is_err_and c.from_residual-in_err-counts.result c.from_residual-in_err-counts.ensures.1 in
    rw (p.1, p.2) (λ w k stands placed read_only next.
    let at : end ≡ head_of k.source = c.in_ok-end.ensures.world w (seen_as kept set s0 s0 c.requires.closed w k stands placed (looks_none kept s0)) ∙ ap head_of (place_is kept set s0 s0 c.requires.closed w k stands placed) in
    let known_is : known ≡ state_in w k = c.in_ok-known.ensures.state w k stands.sound placed (target_after kept set s0 s1 c.requires.closed w k stands placed first) in
    let r = revealed_after kept set s0 s2 c.requires.closed w k stands placed looks in
    let target = target_after kept set s0 s2 c.requires.closed w k stands placed looks in
    record {
      stands = may_have_refreshed takes g.met.T.Targets.unnumbered w k set stands.sound placed read_only next kept shows s0 s2 s3 stands r end at known known_is c.in_err-counts.field-0.0 (elim may.stepped [
        | inl same ↦ inl (same ∙ looks.stays.held)
        | inr stepped ↦ inr (stepped.0, stepped_after kept set s0 s2 s3 set.target (PutsSomeTargets kept takes shows s2 set (Refresh end.commit end.time) known) looks.stays.held stepped.1)
      ]);
      undamaged = c.in_err-counts.ensures.undamaged target.0 target.1 w k stands.sound placed r read_only (can_load k end at) next.1 target.2;
    })

pub returns-in_err-counts-clause-blames : goal.returns-in_err-counts-clause-blames
returns-in_err-counts-clause-blames g c =
    let s0 = c.args.sites.now in
    let s2 = c.read_only_state.new.sites in
    let looks = looks_then g.K.Keeper.kept s0 c.last_commit.new.sites s2 c.in_ok-end.ensures.ok c.in_ok-known.ensures.ok in
    let p = err_from_is_err_and c.from_residual-in_err-counts.result c.from_residual-in_err-counts.ensures.1 in
    rw (p.1, p.2) (put_blames g.K.Keeper.kept g.T.Targets.shows c.args.set.now s0 s2 looks c.put_step.new.sites c.in_err-counts.field-0.0 c.in_err-counts.ensures.fault.blames)

pub returns-clause-ok : goal.returns-clause-ok
returns-clause-ok g c = λ w k stands placed read_only next.
    let kept = g.K.Keeper.kept in
    let takes = g.T.Targets.takes in
    let shows = g.T.Targets.shows in
    let s0 = c.args.sites.now in
    let s1 = c.last_commit.new.sites in
    let s2 = c.read_only_state.new.sites in
    let set = c.args.set.now in
    let s3 = c.put_step.new.sites in
    let end = c.in_ok-end.end in
    let known = c.in_ok-known.known in
    let first = c.in_ok-end.ensures.ok in
    let looks = looks_then kept s0 s1 s2 first c.in_ok-known.ensures.ok in
    let at : end ≡ head_of k.source = c.in_ok-end.ensures.world w (seen_as kept set s0 s0 c.requires.closed w k stands placed (looks_none kept s0)) ∙ ap head_of (place_is kept set s0 s0 c.requires.closed w k stands placed) in
    let known_is : known ≡ state_in w k = c.in_ok-known.ensures.state w k stands.sound placed (target_after kept set s0 s1 c.requires.closed w k stands placed first) in
    let r = revealed_after kept set s0 s2 c.requires.closed w k stands placed looks in
    has_answered takes g.met.T.Targets.unnumbered w k set stands.sound placed read_only next kept shows s0 s2 s3 stands r end at known known_is c.in_ok-counts.counts (stepped_after kept set s0 s2 s3 set.target (PutsTargets kept takes shows s2 set (Refresh end.commit end.time) known c.in_ok-counts.counts) looks.stays.held c.in_ok-counts.ensures.ok.stepped)
