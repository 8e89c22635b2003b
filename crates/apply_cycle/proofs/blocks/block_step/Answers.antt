use Rattle.std.proofs.Common.{◌≡◌, ◌∙◌, inl, inr, refl, arith, None}
use Rattle.std.proofs.lemmas.Result.{err_from_is_err_and}
use Rattle.site_store.specs.Words.{looks_none, looks_then}
use Rattle.repl_model.specs.Words.{after_action, blocks}
use Rattle.repl_types.specs.declared.area.Area.TheVariants as areas
use Rattle.subs_sets.specs.Cuts.{time_from}
use Rattle.subs_sets.specs.States.{state_in}
use Rattle.target_steps.specs.declared.step.Step.TheVariants.{Block}
use Rattle.target_steps.specs.Steps.{PutsTargets, PutsSomeTargets}
use Rattle.target_steps.specs.laws.AtServers.{unchanged, stepped_after, revealed_after, target_after, captured_undamaged, state_undamaged}
use Rattle.apply_cycle.proofs.BlockSteps.{put_blames}
use Rattle.apply_cycle.proofs.Blocked.{can, may_have_blocked, has_answered}
use Rattle.apply_cycle.proofs.blocks.block_step.Goals as goal

pub returns-in_err-known-clause-fault : goal.returns-in_err-known-clause-fault
returns-in_err-known-clause-fault g c =
    let kept = g.K.Keeper.kept in
    let s0 = c.args.sites.now in
    let s1 = c.read_only_state.new.sites in
    let set = c.args.set.now in
    let e = c.in_err-known.field-0.0 in
    let f = c.in_err-known.ensures.fault in
    let p = err_from_is_err_and c.from_residual.result c.from_residual.ensures.1 in
    rw (p.1, p.2) (λ w k stands placed read_only next. unchanged kept set s0 s1 w (after_action w k (blocks c.args.upto)) e f.held stands (state_undamaged kept set s0 s0 c.requires.closed w k stands placed (looks_none kept s0) s1 e f))

pub returns-in_err-time-clause-fault : goal.returns-in_err-time-clause-fault
returns-in_err-time-clause-fault g c =
    let kept = g.K.Keeper.kept in
    let s0 = c.args.sites.now in
    let s1 = c.read_only_state.new.sites in
    let s2 = c.unit_time.new.sites in
    let set = c.args.set.now in
    let e = c.in_err-time.field-0.0 in
    let f = c.in_err-time.ensures.fault in
    let first = c.in_ok-known.ensures.ok in
    let p = err_from_is_err_and c.from_residual-in_err-time.result c.from_residual-in_err-time.ensures.1 in
    rw (p.1, p.2) (λ w k stands placed read_only next. unchanged kept set s0 s2 w (after_action w k (blocks c.args.upto)) e (f.held ∙ first.stays.held) stands (captured_undamaged kept set s0 s1 c.requires.closed w k stands placed first s2 e f))

pub returns-in_err-counts-clause-blames : goal.returns-in_err-counts-clause-blames
returns-in_err-counts-clause-blames g c =
    let s0 = c.args.sites.now in
    let s2 = c.unit_time.new.sites in
    let looks = looks_then g.K.Keeper.kept s0 c.read_only_state.new.sites s2 c.in_ok-known.ensures.ok c.in_ok-time.ensures.ok in
    let p = err_from_is_err_and c.from_residual-in_err-counts.result c.from_residual-in_err-counts.ensures.1 in
    rw (p.1, p.2) (put_blames g.K.Keeper.kept g.T.Targets.shows c.args.set.now s0 s2 looks c.put_step.new.sites c.in_err-counts.field-0.0 c.in_err-counts.ensures.fault.blames)

pub returns-in_err-counts-clause-fault : goal.returns-in_err-counts-clause-fault
returns-in_err-counts-clause-fault g c =
    let kept = g.K.Keeper.kept in
    let takes = g.T.Targets.takes in
    let shows = g.T.Targets.shows in
    let s0 = c.args.sites.now in
    let s1 = c.read_only_state.new.sites in
    let s2 = c.unit_time.new.sites in
    let set = c.args.set.now in
    let s3 = c.put_step.new.sites in
    let known = c.in_ok-known.known in
    let time = c.in_ok-time.time in
    let first = c.in_ok-known.ensures.ok in
    let looks = looks_then kept s0 s1 s2 first c.in_ok-time.ensures.ok in
    let may = c.in_err-counts.ensures.fault in
    let p = err_from_is_err_and c.from_residual-in_err-counts.result c.from_residual-in_err-counts.ensures.1 in
    rw (p.1, p.2) (λ w k stands placed read_only next.
    let known_is : known ≡ state_in w k = c.in_ok-known.ensures.state w k stands.sound placed (target_after kept set s0 s0 c.requires.closed w k stands placed (looks_none kept s0)) in
    let time_is : time ≡ time_from c.args.upto k.source = c.in_ok-time.ensures.time w k stands.sound placed (revealed_after kept set s0 s1 c.requires.closed w k stands placed first) in
    let r = revealed_after kept set s0 s2 c.requires.closed w k stands placed looks in
    let target = target_after kept set s0 s2 c.requires.closed w k stands placed looks in
    record {
      stands = may_have_blocked takes g.met.T.Targets.unnumbered w k set stands.sound placed read_only c.args.upto next known known_is time time_is kept shows s0 s2 s3 stands r c.in_err-counts.field-0.0 (elim may.stepped [
        | inl same ↦ inl (same ∙ looks.stays.held)
        | inr stepped ↦ inr (stepped.0, stepped_after kept set s0 s2 s3 set.target (PutsSomeTargets kept takes shows s2 set (Block known.synchpoint known.time c.args.upto time None) known) looks.stays.held stepped.1)
      ]);
      undamaged = c.in_err-counts.ensures.undamaged target.0 target.1 w k stands.sound placed r read_only (can takes g.met.T.Targets.unnumbered w k set stands.sound placed read_only c.args.upto next known known_is time time_is) next.1 target.2;
    })

pub returns-clause-ok : goal.returns-clause-ok
returns-clause-ok g c = λ w k stands placed read_only next.
    let kept = g.K.Keeper.kept in
    let takes = g.T.Targets.takes in
    let shows = g.T.Targets.shows in
    let s0 = c.args.sites.now in
    let s1 = c.read_only_state.new.sites in
    let s2 = c.unit_time.new.sites in
    let set = c.args.set.now in
    let s3 = c.put_step.new.sites in
    let known = c.in_ok-known.known in
    let time = c.in_ok-time.time in
    let first = c.in_ok-known.ensures.ok in
    let looks = looks_then kept s0 s1 s2 first c.in_ok-time.ensures.ok in
    let known_is : known ≡ state_in w k = c.in_ok-known.ensures.state w k stands.sound placed (target_after kept set s0 s0 c.requires.closed w k stands placed (looks_none kept s0)) in
    let time_is : time ≡ time_from c.args.upto k.source = c.in_ok-time.ensures.time w k stands.sound placed (revealed_after kept set s0 s1 c.requires.closed w k stands placed first) in
    let r = revealed_after kept set s0 s2 c.requires.closed w k stands placed looks in
    has_answered takes g.met.T.Targets.unnumbered w k set stands.sound placed read_only c.args.upto next known known_is time time_is kept shows s0 s2 s3 stands r c.in_ok-counts.counts (stepped_after kept set s0 s2 s3 set.target (PutsTargets kept takes shows s2 set (Block known.synchpoint known.time c.args.upto time None) known c.in_ok-counts.counts) looks.stays.held c.in_ok-counts.ensures.ok.stepped)

pub returns-clause-counted : goal.returns-clause-counted
returns-clause-counted g c = λ short s. omega (arith, c.in_ok-known.ensures.reads s areas.Cd refl, c.in_ok-time.ensures.reads s areas.Cd refl, c.in_ok-counts.ensures.counted short s)
