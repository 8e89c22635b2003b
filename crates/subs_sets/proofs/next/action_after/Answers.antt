use Rattle.std.proofs.Common.{◌≡◌, cond, ap, ◌∙◌, arith, nat_lt}
use Rattle.std.proofs.lemmas.Result.{err_from_is_err_and}
use Rattle.world_store.specs.Words.{capture_spelling, IsCapture, single_spelling, CaptureState}
use Rattle.site_store.specs.Words.{reads_of_one, sees, get_breaks, breaks_after, looks_then}
use Rattle.repl_model.specs.Words.{reports, idles, by_gap, gap_of, synchpoint, base_of}
use Rattle.repl_types.specs.declared.area.Area.TheVariants as areas
use Rattle.subs_sets.specs.Actions.{action_of}
use Rattle.subs_sets.specs.Rules.{captured_rules, source_rules}
use Rattle.subs_sets.proofs.ActionCases.{reports_or_idles, as_gap_says}
use Rattle.subs_sets.proofs.JoinedRules.{captured_breaks}
use Rattle.subs_sets.proofs.Looking.{looked, for_source_back}
use Rattle.subs_sets.proofs.StoredCapture.{capture_is}
use Rattle.subs_sets.proofs.next.action_after.Goals as goal

pub returns-in_err-capture-clause-fault : goal.returns-in_err-capture-clause-fault
returns-in_err-capture-clause-fault g c =
    let p = err_from_is_err_and c.from_residual.result c.from_residual.ensures.1 in
    let kept = g.K.Keeper.kept in
    let source = c.args.set.now.source in
    let e = c.in_err-capture.field-0.0 in
    rw (p.1, p.2) (captured_breaks kept c.args.sites.now c.get_state.new.self source e (get_breaks captured_rules kept IsCapture capture_spelling c.args.sites.now c.get_state.new.self source areas.Capture 0 (single_spelling (record {})) (reads_of_one 1 source areas.Capture) e (λ bytes h. h) c.in_err-capture.ensures.fault))

pub returns-in_err-action-clause-fault : goal.returns-in_err-action-clause-fault
returns-in_err-action-clause-fault g c =
    let p = err_from_is_err_and c.from_residual-in_err-action.result c.from_residual-in_err-action.ensures.1 in
    let kept = g.K.Keeper.kept in
    let source = c.args.set.now.source in
    rw (p.1, p.2) (breaks_after source_rules kept c.args.sites.now c.get_state.new.self c.report_if_behind.new.sites source c.in_err-action.field-0.0 (looked kept c.args.sites.now c.get_state.new.self source areas.Capture c.in_ok-capture.ensures.ok) c.in_err-action.ensures.fault)

pub returns-then-capture-point-clause-ok : goal.returns-then-capture-point-clause-ok
returns-then-capture-point-clause-ok g c =
    let kept = g.K.Keeper.kept in
    looks_then kept c.args.sites.now c.get_state.new.self c.report_if_behind.new.sites (looked kept c.args.sites.now c.get_state.new.self c.args.set.now.source areas.Capture c.in_ok-capture.ensures.ok) c.in_ok-action.ensures.ok

pub returns-then-capture-point-clause-action : goal.returns-then-capture-point-clause-action
returns-then-capture-point-clause-action g c = λ w k sound placed reveals point_is base_is.
    let kept = g.K.Keeper.kept in
    let s0 = c.args.sites.now in
    let set = c.args.set.now in
    let look = looked kept s0 c.get_state.new.self set.source areas.Capture c.in_ok-capture.ensures.ok in
    let state = capture_is w k set (sees kept s0 set.source) c.in_ok-capture.capture sound placed reveals (c.in_ok-capture.ensures.fits (omega arith, omega arith, omega arith)) c.in_ok-capture.ensures.state in
    for_source_back kept s0 c.get_state.new.self set (λ w k. action_of c.in_ok-action.action ≡ cond (nat_lt k.at_source.mark c.args.point) reports idles) look c.in_ok-action.ensures.action w k sound placed reveals
    ∙ reports_or_idles c.args.end k c.in_ok-capture.capture.captured c.args.point (ap (λ (s : CaptureState). s.captured) state) point_is c.if-capture-point.true

pub returns-in_err-action-2-clause-fault : goal.returns-in_err-action-2-clause-fault
returns-in_err-action-2-clause-fault g c =
    let p = err_from_is_err_and c.from_residual-in_err-action-2.result c.from_residual-in_err-action-2.ensures.1 in
    let kept = g.K.Keeper.kept in
    let source = c.args.set.now.source in
    rw (p.1, p.2) (breaks_after source_rules kept c.args.sites.now c.get_state.new.self c.block_or_refresh.new.sites source c.in_err-action-2.field-0.0 (looked kept c.args.sites.now c.get_state.new.self source areas.Capture c.in_ok-capture.ensures.ok) c.in_err-action-2.ensures.fault)

pub returns-clause-ok : goal.returns-clause-ok
returns-clause-ok g c =
    let kept = g.K.Keeper.kept in
    looks_then kept c.args.sites.now c.get_state.new.self c.block_or_refresh.new.sites (looked kept c.args.sites.now c.get_state.new.self c.args.set.now.source areas.Capture c.in_ok-capture.ensures.ok) c.in_ok-action-2.ensures.ok

pub returns-clause-action : goal.returns-clause-action
returns-clause-action g c = λ w k sound placed reveals point_is base_is.
    let kept = g.K.Keeper.kept in
    let s0 = c.args.sites.now in
    let set = c.args.set.now in
    let look = looked kept s0 c.get_state.new.self set.source areas.Capture c.in_ok-capture.ensures.ok in
    let state = capture_is w k set (sees kept s0 set.source) c.in_ok-capture.capture sound placed reveals (c.in_ok-capture.ensures.fits (omega arith, omega arith, omega arith)) c.in_ok-capture.ensures.state in
    for_source_back kept s0 c.get_state.new.self set (λ w k. c.args.point ≡ synchpoint k.at_target.trail → c.args.base ≡ base_of k.at_target.trail → c.in_ok-capture.capture.floor ≡ k.source.floor → action_of c.in_ok-action-2.action ≡ by_gap c.args.end k (gap_of k)) look c.in_ok-action-2.ensures.action w k sound placed reveals point_is base_is (ap (λ (s : CaptureState). s.floor) state)
    ∙ as_gap_says c.args.end k c.in_ok-capture.capture.captured c.args.point (ap (λ (s : CaptureState). s.captured) state) point_is c.if-capture-point.false
