use Rattle.std.proofs.Common.{◌≡◌, Bool, true, not, ◌||◌, ap, ap₂, ◌∙◌}
use Rattle.std.proofs.lemmas.Bool.{or_left, or_right}
use Rattle.std.proofs.lemmas.Result.{err_from_is_err_and}
use Rattle.site_store.specs.Words.{breaks_after, looks_then}
use Rattle.repl_model.specs.Words.{refresh_by_signal, synchpoint, base_of}
use Rattle.set_places.specs.laws.Standing.{source_revealed, target_revealed}
use Rattle.subs_sets.specs.Actions.{action_of, once_refreshed}
use Rattle.subs_sets.specs.Rules.{source_rules}
use Rattle.subs_sets.specs.declared.states.ReadOnlyState.{ReadOnlyState}
use Rattle.subs_sets.proofs.ActionCases.{is_refreshed, goes_on}
use Rattle.subs_sets.proofs.JoinedRules.{source_shows, target_shows}
use Rattle.subs_sets.proofs.Looking.{for_source_back}
use Rattle.subs_sets.proofs.next.find_action.Goals as goal
use Rattle.subs_sets.proofs.next.find_action.Goals.{then-not-state-via-then-not-state, then-not-state-via-else-not-state+then-state}

pub returns-in_err-state-clause-fault : goal.returns-in_err-state-clause-fault
returns-in_err-state-clause-fault g c =
    let p = err_from_is_err_and c.from_residual.result c.from_residual.ensures.1 in
    rw (p.1, p.2) (target_shows g.K.Keeper.kept c.args.sites.now c.read_only_state.new.sites c.args.set.now.target c.in_err-state.field-0.0 c.requires.placed.target.within c.in_err-state.ensures.fault)

pub returns-in_err-action-clause-fault : goal.returns-in_err-action-clause-fault
returns-in_err-action-clause-fault g c =
    let p = err_from_is_err_and c.from_residual-in_err-action.result c.from_residual-in_err-action.ensures.1 in
    let kept = g.K.Keeper.kept in
    let source = c.args.set.now.source in
    let e = c.in_err-action.field-0.0 in
    rw (p.1, p.2) (source_shows kept c.args.sites.now c.refresh_by_signal.new.sites source e c.requires.placed.source.within (breaks_after source_rules kept c.args.sites.now c.read_only_state.new.sites c.refresh_by_signal.new.sites source e c.in_ok-state.ensures.ok c.in_err-action.ensures.fault))

pub returns-then-not-state-clause-ok : goal.returns-then-not-state-clause-ok
returns-then-not-state-clause-ok g c = looks_then g.K.Keeper.kept c.args.sites.now c.read_only_state.new.sites c.refresh_by_signal.new.sites c.in_ok-state.ensures.ok c.in_ok-action.ensures.ok

pub returns-then-not-state-clause-action : goal.returns-then-not-state-clause-action
returns-then-not-state-clause-action g c = λ w k stands placed read_only.
    let kept = g.K.Keeper.kept in
    let s0 = c.args.sites.now in
    let set = c.args.set.now in
    let closed = c.requires.closed in
    let state = c.in_ok-state.ensures.state w k stands.sound placed (target_revealed kept s0 w k set stands (closed set.target) placed) in
    let due : (not c.in_ok-state.state.has_points || c.in_ok-state.state.flag) ≡ true = elim c.then-not-state.branch [
      | then-not-state-via-then-not-state w ↦ or_left (not c.in_ok-state.state.has_points) c.in_ok-state.state.flag w.if-not-state.true
      | then-not-state-via-else-not-state+then-state w ↦ or_right (not c.in_ok-state.state.has_points) c.in_ok-state.state.flag w.if-state.true
    ] in
    for_source_back kept s0 c.read_only_state.new.sites set (λ w k. c.in_ok-state.state.base ≡ base_of k.at_target.trail → action_of c.in_ok-action.action ≡ refresh_by_signal k) c.in_ok-state.ensures.ok c.in_ok-action.ensures.action w k stands.sound placed (source_revealed kept s0 w k set stands (closed set.source) placed) (ap (λ (s : ReadOnlyState). s.base) state)
    ∙ is_refreshed c.args.end k c.in_ok-state.state.has_points c.in_ok-state.state.flag (ap (λ (s : ReadOnlyState). s.has_points) state) (ap (λ (s : ReadOnlyState). s.flag) state) due

pub returns-in_err-action-2-clause-fault : goal.returns-in_err-action-2-clause-fault
returns-in_err-action-2-clause-fault g c =
    let p = err_from_is_err_and c.from_residual-in_err-action-2.result c.from_residual-in_err-action-2.ensures.1 in
    let kept = g.K.Keeper.kept in
    let source = c.args.set.now.source in
    let e = c.in_err-action-2.field-0.0 in
    rw (p.1, p.2) (source_shows kept c.args.sites.now c.action_after.new.sites source e c.requires.placed.source.within (breaks_after source_rules kept c.args.sites.now c.read_only_state.new.sites c.action_after.new.sites source e c.in_ok-state.ensures.ok c.in_err-action-2.ensures.fault))

pub returns-clause-ok : goal.returns-clause-ok
returns-clause-ok g c = looks_then g.K.Keeper.kept c.args.sites.now c.read_only_state.new.sites c.action_after.new.sites c.in_ok-state.ensures.ok c.in_ok-action-2.ensures.ok

pub returns-clause-action : goal.returns-clause-action
returns-clause-action g c = λ w k stands placed read_only.
    let kept = g.K.Keeper.kept in
    let s0 = c.args.sites.now in
    let set = c.args.set.now in
    let closed = c.requires.closed in
    let state = c.in_ok-state.ensures.state w k stands.sound placed (target_revealed kept s0 w k set stands (closed set.target) placed) in
    for_source_back kept s0 c.read_only_state.new.sites set (λ w k. c.in_ok-state.state.synchpoint ≡ synchpoint k.at_target.trail → c.in_ok-state.state.base ≡ base_of k.at_target.trail → action_of c.in_ok-action-2.action ≡ once_refreshed c.args.end k) c.in_ok-state.ensures.ok c.in_ok-action-2.ensures.action w k stands.sound placed (source_revealed kept s0 w k set stands (closed set.source) placed) (ap (λ (s : ReadOnlyState). s.synchpoint) state) (ap (λ (s : ReadOnlyState). s.base) state)
    ∙ goes_on c.args.end k c.in_ok-state.state.has_points c.in_ok-state.state.flag (ap (λ (s : ReadOnlyState). s.has_points) state) (ap (λ (s : ReadOnlyState). s.flag) state) (ap₂ (λ (a b : Bool). a || b) c.if-not-state.false c.if-state.false)
