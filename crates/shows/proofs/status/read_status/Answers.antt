use Rattle.set_places.specs.laws.Standing.{source_revealed, target_revealed}
use Rattle.prune_control.specs.Noting.{mark_rules}
use Rattle.prune_control.specs.laws.Marks.{marks_undamaged}
use Rattle.subs_sets.specs.Rules.{state_rules}
use Rattle.subs_sets.specs.laws.Undamaged.{states_undamaged}
use Rattle.shows.specs.sets.Rules.{ShowsDamage}
use Rattle.std.proofs.Common.{rules, ◌≡◌}
use Rattle.world_store.specs.Words.{SyncMark}
use Rattle.site_store.specs.Words.{breaks_after, looks_then}
use Rattle.shows.proofs.AfterReads.{source_before}
use Rattle.shows.proofs.SetBlame.{mark_shows, memory_after, none_broken, state_shows}
use Rattle.shows.proofs.KnownStatus.{status_is}
use Rattle.shows.proofs.Passed.{passed}
use Rattle.shows.proofs.status.read_status.Goals as goal

pub returns-in_err-state-clause-fault : goal.returns-in_err-state-clause-fault
returns-in_err-state-clause-fault g c = passed c.from_residual.result _ _ c.from_residual.ensures.1 (state_shows g.K.Keeper.kept c.args.sites.now c.read_only_state.new.sites c.in_err-state.field-0.0 c.args.set.now.target c.requires.placed.target.within c.in_err-state.ensures.fault)

pub returns-in_err-state-clause-undamaged : goal.returns-in_err-state-clause-undamaged
returns-in_err-state-clause-undamaged g c = passed c.from_residual.result _ _ c.from_residual.ensures.1 (λ w k stands placed read_only. none_broken g.K.Keeper.kept c.args.sites.now c.requires.closed w stands state_rules (λ server d i holds. states_undamaged w server d stands.sound i holds) c.read_only_state.new.sites c.args.set.now.target c.in_err-state.field-0.0 c.requires.placed.target.within c.in_err-state.ensures.fault)

pub returns-in_err-known-clause-fault : goal.returns-in_err-known-clause-fault
returns-in_err-known-clause-fault g c =
    let kept = g.K.Keeper.kept in
    let s0 = c.args.sites.now in
    let s2 = c.read_mark.new.sites in
    let source = c.args.set.now.source in
    let e = c.in_err-known.field-0.0 in
    passed c.from_residual-in_err-known.result _ _ c.from_residual-in_err-known.ensures.1 (mark_shows kept s0 s2 e source c.requires.placed.source.within (breaks_after mark_rules kept s0 c.read_only_state.new.sites s2 source e c.in_ok-state.ensures.ok c.in_err-known.ensures.fault))

pub returns-in_err-known-clause-undamaged : goal.returns-in_err-known-clause-undamaged
returns-in_err-known-clause-undamaged g c =
    let kept = g.K.Keeper.kept in
    let s0 = c.args.sites.now in
    let s2 = c.read_mark.new.sites in
    let source = c.args.set.now.source in
    let e = c.in_err-known.field-0.0 in
    passed c.from_residual-in_err-known.result _ _ c.from_residual-in_err-known.ensures.1 (λ w k stands placed read_only. none_broken kept s0 c.requires.closed w stands mark_rules (λ server d i holds. marks_undamaged w server d stands.sound i holds) s2 source e c.requires.placed.source.within (breaks_after mark_rules kept s0 c.read_only_state.new.sites s2 source e c.in_ok-state.ensures.ok c.in_err-known.ensures.fault))

pub returns-in_err-clone-clause-fault : goal.returns-in_err-clone-clause-fault
returns-in_err-clone-clause-fault g c =
    let kept = g.K.Keeper.kept in
    let s0 = c.args.sites.now in
    let s2 = c.read_mark.new.sites in
    passed c.from_residual-in_err-clone.result _ _ c.from_residual-in_err-clone.ensures.1 (memory_after kept s0 s2 (looks_then kept s0 c.read_only_state.new.sites s2 c.in_ok-state.ensures.ok c.in_ok-known.ensures.ok) (ShowsDamage kept s0))

pub returns-clause-ok : goal.returns-clause-ok
returns-clause-ok g c = looks_then g.K.Keeper.kept c.args.sites.now c.read_only_state.new.sites c.read_mark.new.sites c.in_ok-state.ensures.ok c.in_ok-known.ensures.ok

pub returns-clause-status : goal.returns-clause-status
returns-clause-status g c = λ w k stands placed read_only.
    let kept = g.K.Keeper.kept in
    let s0 = c.args.sites.now in
    let set = c.args.set.now in
    let closed = c.requires.closed in
    let known : SyncMark = c.in_ok-known.known in
    let named : c.in_ok-clone.field-0 ≡ set.at_target.def.id = search rules in
    status_is w k set c.in_ok-state.state known c.in_ok-clone.field-0 c.if_refreshed.result c.if_refreshed-2.result placed
    (c.in_ok-state.ensures.state w k stands.sound placed (target_revealed kept s0 w k set stands (closed set.target) placed))
    (source_before kept s0 c.read_only_state.new.sites c.in_ok-state.ensures.ok set (λ w k. known ≡ record { mark = k.at_source.mark; signal = k.at_source.signal }) c.in_ok-known.ensures.mark w k stands.sound placed (source_revealed kept s0 w k set stands (closed set.source) placed))
    named c.if_refreshed.ensures c.if_refreshed-2.ensures
