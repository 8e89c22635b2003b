use Rattle.std.proofs.lemmas.Result.{err_from_is_err_and}
use Rattle.site_store.specs.Words.{breaks_after, looks_then}
use Rattle.subs_sets.specs.Rules.{source_rules}
use Rattle.subs_sets.proofs.next.block_or_refresh.Goals as goal

pub returns-in_err-cut-clause-fault : goal.returns-in_err-cut-clause-fault
returns-in_err-cut-clause-fault g c =
    let p = err_from_is_err_and c.from_residual-in_err-cut.result c.from_residual-in_err-cut.ensures.1 in
    rw (p.1, p.2) (breaks_after source_rules g.K.Keeper.kept c.args.sites.now c.find_gap.new.sites c.block_end.new.sites c.args.set.now.source c.in_err-cut.field-0.0 c.in_ok-gap.ensures.ok c.in_err-cut.ensures.fault)

pub returns-in_default-clause-ok : goal.returns-in_default-clause-ok
returns-in_default-clause-ok g c = looks_then g.K.Keeper.kept c.args.sites.now c.find_gap.new.sites c.block_end.new.sites c.in_ok-gap.ensures.ok c.in_ok-cut.ensures.ok

pub returns-in_err-action-clause-fault : goal.returns-in_err-action-clause-fault
returns-in_err-action-clause-fault g c =
    let kept = g.K.Keeper.kept in
    let s0 = c.args.sites.now in
    let p = err_from_is_err_and c.from_residual-in_err-action.result c.from_residual-in_err-action.ensures.1 in
    rw (p.1, p.2) (breaks_after source_rules kept s0 c.block_end.new.sites c.report_if_behind.new.sites c.args.set.now.source c.in_err-action.field-0.0
    (looks_then kept s0 c.find_gap.new.sites c.block_end.new.sites c.in_ok-gap.ensures.ok c.in_ok-cut.ensures.ok) c.in_err-action.ensures.fault)

pub returns-in_default-cut-clause-ok : goal.returns-in_default-cut-clause-ok
returns-in_default-cut-clause-ok g c =
    let kept = g.K.Keeper.kept in
    let s0 = c.args.sites.now in
    looks_then kept s0 c.block_end.new.sites c.report_if_behind.new.sites
    (looks_then kept s0 c.find_gap.new.sites c.block_end.new.sites c.in_ok-gap.ensures.ok c.in_ok-cut.ensures.ok) c.in_ok-action.ensures.ok

pub returns-in_err-action-2-clause-fault : goal.returns-in_err-action-2-clause-fault
returns-in_err-action-2-clause-fault g c =
    let p = err_from_is_err_and c.from_residual-in_err-action-2.result c.from_residual-in_err-action-2.ensures.1 in
    rw (p.1, p.2) (breaks_after source_rules g.K.Keeper.kept c.args.sites.now c.find_gap.new.sites c.refresh_by_signal.new.sites c.args.set.now.source c.in_err-action-2.field-0.0 c.in_ok-gap.ensures.ok c.in_err-action-2.ensures.fault)

pub returns-clause-ok : goal.returns-clause-ok
returns-clause-ok g c = looks_then g.K.Keeper.kept c.args.sites.now c.find_gap.new.sites c.refresh_by_signal.new.sites c.in_ok-gap.ensures.ok c.in_ok-action-2.ensures.ok
