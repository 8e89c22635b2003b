use Rattle.std.proofs.Common.{◌≡◌, ◌∙◌, sym, ap, subst}
use Rattle.std.proofs.lemmas.Result.{err_from_is_err_and}
use Rattle.repl_model.specs.Words.{after_action, Action, signals, refreshes, blocks, reports, next_action_within}
use Rattle.subs_sets.specs.Actions.{action_of}
use Rattle.apply_cycle.specs.Stepping.{HasMade, HasFailed}
use Rattle.apply_cycle.proofs.StepCases.{makes, fails, refresh_may, block_may, stands_on, become_back, may_back, made_back, failed_back, refresh_blamed, block_blamed, report_blamed, reads_before, reads_then, reads_if_block, reads_unless_block, not_idle, refresh_acted, block_acted}
use Rattle.apply_cycle.proofs.steps.step_within.Goals as goal

pub returns-in_err-stepped-in-Refresh-clause-blames : goal.returns-in_err-stepped-in-Refresh-clause-blames
returns-in_err-stepped-in-Refresh-clause-blames g c =
    let e = c.in_err-stepped-in-Refresh.field-0.0 in
    let p = err_from_is_err_and c.from_residual-in_err-stepped-in-Refresh.result c.from_residual-in_err-stepped-in-Refresh.ensures.1 in
    rw (p.1, p.2) (refresh_blamed g.K.Keeper.kept g.T.Targets.shows c.args.set.now c.args.sites.now c.next_action.new.sites c.refresh_step.new.sites c.in_ok-action.ensures.ok e c.in_err-stepped-in-Refresh.ensures.blames)

pub returns-in_err-stepped-in-Block-clause-blames : goal.returns-in_err-stepped-in-Block-clause-blames
returns-in_err-stepped-in-Block-clause-blames g c =
    let e = c.in_err-stepped-in-Block.field-0.0 in
    let p = err_from_is_err_and c.from_residual-in_err-stepped-in-Block.result c.from_residual-in_err-stepped-in-Block.ensures.1 in
    rw (p.1, p.2) (block_blamed g.K.Keeper.kept g.T.Targets.shows c.args.set.now c.args.sites.now c.next_action.new.sites c.block_step.new.sites c.in_ok-action.ensures.ok e c.in_err-stepped-in-Block.ensures.blames)

pub returns-in_err-stepped-in-Report-clause-blames : goal.returns-in_err-stepped-in-Report-clause-blames
returns-in_err-stepped-in-Report-clause-blames g c =
    let e = c.in_err-stepped-in-Report.field-0.0 in
    let p = err_from_is_err_and c.from_residual-in_err-stepped-in-Report.result c.from_residual-in_err-stepped-in-Report.ensures.1 in
    rw (p.1, p.2) (report_blamed g.K.Keeper.kept g.T.Targets.shows c.args.set.now c.args.sites.now c.next_action.new.sites c.report.new.sites c.in_ok-action.ensures.ok e c.in_err-stepped-in-Report.ensures.blames)

pub returns-in_err-stepped-in-Refresh-clause-fault : goal.returns-in_err-stepped-in-Refresh-clause-fault
returns-in_err-stepped-in-Refresh-clause-fault g c =
    let kept = g.K.Keeper.kept in
    let s0 = c.args.sites.now in
    let s1 = c.next_action.new.sites in
    let s2 = c.refresh_step.new.sites in
    let set = c.args.set.now in
    let looks = c.in_ok-action.ensures.ok in
    let e = c.in_err-stepped-in-Refresh.field-0.0 in
    let p = err_from_is_err_and c.from_residual-in_err-stepped-in-Refresh.result c.from_residual-in_err-stepped-in-Refresh.ensures.1 in
    rw (p.1, p.2) (λ w k stands placed read_only each.
    let next : refreshes ≡ next_action_within c.args.end k = ap action_of (sym c.in-Refresh.is) ∙ c.in_ok-action.ensures.action w k stands placed read_only in
    let may = c.in_err-stepped-in-Refresh.ensures.fault w k (stands_on kept s0 s1 looks w stands) placed read_only (refresh_may c.args.end k next, each) in
    fails kept s0 s2 w k (next_action_within c.args.end k) e refreshes next (may_back kept s0 s1 looks s2 w (after_action w k refreshes) e may))

pub returns-in_err-stepped-in-Block-clause-fault : goal.returns-in_err-stepped-in-Block-clause-fault
returns-in_err-stepped-in-Block-clause-fault g c =
    let kept = g.K.Keeper.kept in
    let s0 = c.args.sites.now in
    let s1 = c.next_action.new.sites in
    let s2 = c.block_step.new.sites in
    let set = c.args.set.now in
    let looks = c.in_ok-action.ensures.ok in
    let to = c.in-Block.to in
    let e = c.in_err-stepped-in-Block.field-0.0 in
    let p = err_from_is_err_and c.from_residual-in_err-stepped-in-Block.result c.from_residual-in_err-stepped-in-Block.ensures.1 in
    rw (p.1, p.2) (λ w k stands placed read_only each.
    let next : blocks to ≡ next_action_within c.args.end k = ap action_of (sym c.in-Block.is) ∙ c.in_ok-action.ensures.action w k stands placed read_only in
    let may = c.in_err-stepped-in-Block.ensures.fault w k (stands_on kept s0 s1 looks w stands) placed read_only (block_may c.args.end k to next, each) in
    fails kept s0 s2 w k (next_action_within c.args.end k) e (blocks to) next (may_back kept s0 s1 looks s2 w (after_action w k (blocks to)) e may))

pub returns-in_ok-stepped-in-Refresh-clause-ok : goal.returns-in_ok-stepped-in-Refresh-clause-ok
returns-in_ok-stepped-in-Refresh-clause-ok g c = λ w k stands placed read_only each.
    let kept = g.K.Keeper.kept in
    let s0 = c.args.sites.now in
    let s1 = c.next_action.new.sites in
    let s2 = c.refresh_step.new.sites in
    let set = c.args.set.now in
    let looks = c.in_ok-action.ensures.ok in
    let next : refreshes ≡ next_action_within c.args.end k = ap action_of (sym c.in-Refresh.is) ∙ c.in_ok-action.ensures.action w k stands placed read_only in
    let made = c.in_ok-stepped-in-Refresh.ensures.ok w k (stands_on kept s0 s1 looks w stands) placed read_only (refresh_may c.args.end k next, each) in
    makes kept s0 s2 w k (next_action_within c.args.end k) set.source c.in_ok-stepped-in-Refresh.stepped refreshes next (become_back kept s0 s1 looks s2 (after_action w k refreshes) made.0) made.1

pub returns-in_ok-stepped-in-Block-clause-ok : goal.returns-in_ok-stepped-in-Block-clause-ok
returns-in_ok-stepped-in-Block-clause-ok g c = λ w k stands placed read_only each.
    let kept = g.K.Keeper.kept in
    let s0 = c.args.sites.now in
    let s1 = c.next_action.new.sites in
    let s2 = c.block_step.new.sites in
    let set = c.args.set.now in
    let looks = c.in_ok-action.ensures.ok in
    let to = c.in-Block.to in
    let next : blocks to ≡ next_action_within c.args.end k = ap action_of (sym c.in-Block.is) ∙ c.in_ok-action.ensures.action w k stands placed read_only in
    let made = c.in_ok-stepped-in-Block.ensures.ok w k (stands_on kept s0 s1 looks w stands) placed read_only (block_may c.args.end k to next, each) in
    makes kept s0 s2 w k (next_action_within c.args.end k) set.source c.in_ok-stepped-in-Block.stepped (blocks to) next (become_back kept s0 s1 looks s2 (after_action w k (blocks to)) made.0) made.1

pub returns-in_err-stepped-in-Signal-clause-fault : goal.returns-in_err-stepped-in-Signal-clause-fault
returns-in_err-stepped-in-Signal-clause-fault g c =
    let kept = g.K.Keeper.kept in
    let s0 = c.args.sites.now in
    let s1 = c.next_action.new.sites in
    let s2 = c.signal.new.sites in
    let looks = c.in_ok-action.ensures.ok in
    let e = c.in_err-stepped-in-Signal.field-0.0 in
    let p = err_from_is_err_and c.from_residual-in_err-stepped-in-Signal.result c.from_residual-in_err-stepped-in-Signal.ensures.1 in
    rw (p.1, p.2) (λ w k stands placed read_only each.
    let next : signals ≡ next_action_within c.args.end k = ap action_of (sym c.in-Signal.is) ∙ c.in_ok-action.ensures.action w k stands placed read_only in
    failed_back kept s0 s1 looks s2 w k (next_action_within c.args.end k) e (subst (λ (a : Action). HasFailed kept s1 s2 w k a e) next (c.in_err-stepped-in-Signal.ensures.fault w k (stands_on kept s0 s1 looks w stands) placed read_only)))

pub returns-in_err-stepped-in-Report-clause-fault : goal.returns-in_err-stepped-in-Report-clause-fault
returns-in_err-stepped-in-Report-clause-fault g c =
    let kept = g.K.Keeper.kept in
    let s0 = c.args.sites.now in
    let s1 = c.next_action.new.sites in
    let s2 = c.report.new.sites in
    let looks = c.in_ok-action.ensures.ok in
    let e = c.in_err-stepped-in-Report.field-0.0 in
    let p = err_from_is_err_and c.from_residual-in_err-stepped-in-Report.result c.from_residual-in_err-stepped-in-Report.ensures.1 in
    rw (p.1, p.2) (λ w k stands placed read_only each.
    let next : reports ≡ next_action_within c.args.end k = ap action_of (sym c.in-Report.is) ∙ c.in_ok-action.ensures.action w k stands placed read_only in
    failed_back kept s0 s1 looks s2 w k (next_action_within c.args.end k) e (subst (λ (a : Action). HasFailed kept s1 s2 w k a e) next (c.in_err-stepped-in-Report.ensures.fault w k (stands_on kept s0 s1 looks w stands) placed read_only)))

pub returns-in_ok-stepped-in-Signal-clause-ok : goal.returns-in_ok-stepped-in-Signal-clause-ok
returns-in_ok-stepped-in-Signal-clause-ok g c = λ w k stands placed read_only each.
    let kept = g.K.Keeper.kept in
    let s0 = c.args.sites.now in
    let s1 = c.next_action.new.sites in
    let s2 = c.signal.new.sites in
    let set = c.args.set.now in
    let looks = c.in_ok-action.ensures.ok in
    let stepped = c.in_ok-stepped-in-Signal.stepped in
    let next : signals ≡ next_action_within c.args.end k = ap action_of (sym c.in-Signal.is) ∙ c.in_ok-action.ensures.action w k stands placed read_only in
    made_back kept s0 s1 looks s2 w k (next_action_within c.args.end k) set.source stepped (subst (λ (a : Action). HasMade kept s1 s2 w k a set.source stepped) next (c.in_ok-stepped-in-Signal.ensures.ok w k (stands_on kept s0 s1 looks w stands) placed read_only))

pub returns-in_ok-stepped-in-Report-clause-ok : goal.returns-in_ok-stepped-in-Report-clause-ok
returns-in_ok-stepped-in-Report-clause-ok g c = λ w k stands placed read_only each.
    let kept = g.K.Keeper.kept in
    let s0 = c.args.sites.now in
    let s1 = c.next_action.new.sites in
    let s2 = c.report.new.sites in
    let set = c.args.set.now in
    let looks = c.in_ok-action.ensures.ok in
    let stepped = c.in_ok-stepped-in-Report.stepped in
    let next : reports ≡ next_action_within c.args.end k = ap action_of (sym c.in-Report.is) ∙ c.in_ok-action.ensures.action w k stands placed read_only in
    made_back kept s0 s1 looks s2 w k (next_action_within c.args.end k) set.source stepped (subst (λ (a : Action). HasMade kept s1 s2 w k a set.source stepped) next (c.in_ok-stepped-in-Report.ensures.ok w k (stands_on kept s0 s1 looks w stands) placed read_only))

-- ---- what a block reads

pub returns-in_err-action-clause-block_reads : goal.returns-in_err-action-clause-block_reads
returns-in_err-action-clause-block_reads g c =
    let kept = g.K.Keeper.kept in
    let s0 = c.args.sites.now in
    let s1 = c.next_action.new.sites in
    let p = err_from_is_err_and c.from_residual.result c.from_residual.ensures.1 in
    rw p.1 (λ w k stands placed read_only. reads_if_block kept s0 s1 (reads_before kept s0 s1 c.next_action.ensures.reads) (next_action_within c.args.end k))

pub returns-in_err-stepped-in-Signal-clause-block_reads : goal.returns-in_err-stepped-in-Signal-clause-block_reads
returns-in_err-stepped-in-Signal-clause-block_reads g c =
    let kept = g.K.Keeper.kept in
    let s0 = c.args.sites.now in
    let s2 = c.signal.new.sites in
    let p = err_from_is_err_and c.from_residual-in_err-stepped-in-Signal.result c.from_residual-in_err-stepped-in-Signal.ensures.1 in
    rw p.1 (λ w k stands placed read_only. reads_unless_block kept s0 s2 signals (next_action_within c.args.end k) (ap action_of (sym c.in-Signal.is) ∙ c.in_ok-action.ensures.action w k stands placed read_only) tt)

pub returns-in_err-stepped-in-Refresh-clause-block_reads : goal.returns-in_err-stepped-in-Refresh-clause-block_reads
returns-in_err-stepped-in-Refresh-clause-block_reads g c =
    let kept = g.K.Keeper.kept in
    let s0 = c.args.sites.now in
    let s2 = c.refresh_step.new.sites in
    let p = err_from_is_err_and c.from_residual-in_err-stepped-in-Refresh.result c.from_residual-in_err-stepped-in-Refresh.ensures.1 in
    rw p.1 (λ w k stands placed read_only. reads_unless_block kept s0 s2 refreshes (next_action_within c.args.end k) (ap action_of (sym c.in-Refresh.is) ∙ c.in_ok-action.ensures.action w k stands placed read_only) tt)

pub returns-in_err-stepped-in-Report-clause-block_reads : goal.returns-in_err-stepped-in-Report-clause-block_reads
returns-in_err-stepped-in-Report-clause-block_reads g c =
    let kept = g.K.Keeper.kept in
    let s0 = c.args.sites.now in
    let s2 = c.report.new.sites in
    let p = err_from_is_err_and c.from_residual-in_err-stepped-in-Report.result c.from_residual-in_err-stepped-in-Report.ensures.1 in
    rw p.1 (λ w k stands placed read_only. reads_unless_block kept s0 s2 reports (next_action_within c.args.end k) (ap action_of (sym c.in-Report.is) ∙ c.in_ok-action.ensures.action w k stands placed read_only) tt)

pub returns-in_err-stepped-in-Block-clause-block_reads : goal.returns-in_err-stepped-in-Block-clause-block_reads
returns-in_err-stepped-in-Block-clause-block_reads g c =
    let kept = g.K.Keeper.kept in
    let s0 = c.args.sites.now in
    let s1 = c.next_action.new.sites in
    let s2 = c.block_step.new.sites in
    let p = err_from_is_err_and c.from_residual-in_err-stepped-in-Block.result c.from_residual-in_err-stepped-in-Block.ensures.1 in
    rw p.1 (λ w k stands placed read_only. reads_if_block kept s0 s2 (reads_then kept s0 s1 c.next_action.ensures.reads s2 c.block_step.ensures.reads) (next_action_within c.args.end k))

pub returns-in-Refuse-clause-block_reads : goal.returns-in-Refuse-clause-block_reads
returns-in-Refuse-clause-block_reads g c =
    let kept = g.K.Keeper.kept in
    let s0 = c.args.sites.now in
    let s1 = c.next_action.new.sites in
    λ w k stands placed read_only. reads_if_block kept s0 s1 (reads_before kept s0 s1 c.next_action.ensures.reads) (next_action_within c.args.end k)

-- ---- nothing to do

pub returns-in_ok-stepped-in-Signal-clause-idle : goal.returns-in_ok-stepped-in-Signal-clause-idle
returns-in_ok-stepped-in-Signal-clause-idle g c = not_idle c.in_ok-stepped-in-Signal.stepped _ c.in_ok-stepped-in-Signal.ensures.acted

pub returns-in_ok-stepped-in-Refresh-clause-idle : goal.returns-in_ok-stepped-in-Refresh-clause-idle
returns-in_ok-stepped-in-Refresh-clause-idle g c = not_idle c.in_ok-stepped-in-Refresh.stepped _ (refresh_acted c.in_ok-stepped-in-Refresh.stepped c.in_ok-stepped-in-Refresh.ensures.answer)

pub returns-in_ok-stepped-in-Block-clause-idle : goal.returns-in_ok-stepped-in-Block-clause-idle
returns-in_ok-stepped-in-Block-clause-idle g c = not_idle c.in_ok-stepped-in-Block.stepped _ (block_acted g.K.Keeper.kept c.next_action.new.sites c.block_step.new.sites _ c.in_ok-stepped-in-Block.stepped c.in_ok-stepped-in-Block.ensures.counted)

pub returns-in_ok-stepped-in-Report-clause-idle : goal.returns-in_ok-stepped-in-Report-clause-idle
returns-in_ok-stepped-in-Report-clause-idle g c = not_idle c.in_ok-stepped-in-Report.stepped _ c.in_ok-stepped-in-Report.ensures.acted
