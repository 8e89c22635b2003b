use Rattle.std.proofs.Common.{◌≡◌, refl, ap}
use Rattle.std.proofs.lemmas.Result.{err_from_is_err_and}
use Rattle.site_store.specs.Words.{looks_none}
use Rattle.repl_model.specs.Words.{after_action, reports, synchpoint}
use Rattle.repl_types.specs.declared.fault.Stepped.TheVariants as steps
use Rattle.subs_sets.specs.declared.states.ReadOnlyState.{ReadOnlyState}
use Rattle.target_steps.specs.laws.AtServers.{unchanged, target_after, state_undamaged}
use Rattle.apply_cycle.proofs.StepCases.{fails, stands_on, become_back, may_back, noted_blamed}
use Rattle.apply_cycle.proofs.steps.report.Goals as goal

pub returns-in_err-known-clause-fault : goal.returns-in_err-known-clause-fault
returns-in_err-known-clause-fault g c =
    let kept = g.K.Keeper.kept in
    let s0 = c.args.sites.now in
    let s1 = c.read_only_state.new.sites in
    let set = c.args.set.now in
    let e = c.in_err-known.field-0.0 in
    let f = c.in_err-known.ensures.fault in
    let p = err_from_is_err_and c.from_residual.result c.from_residual.ensures.1 in
    rw (p.1, p.2) (λ w k stands placed read_only. fails kept s0 s1 w k reports e reports refl (unchanged kept set s0 s1 w (after_action w k reports) e f.held stands (state_undamaged kept set s0 s0 c.requires.closed w k stands placed (looks_none kept s0) s1 e f)))

pub returns-in_err-note-clause-fault : goal.returns-in_err-note-clause-fault
returns-in_err-note-clause-fault g c =
    let kept = g.K.Keeper.kept in
    let s0 = c.args.sites.now in
    let s1 = c.read_only_state.new.sites in
    let s2 = c.note.new.sites in
    let set = c.args.set.now in
    let looks = c.in_ok-known.ensures.ok in
    let e = c.in_err-note.field-0.0 in
    let p = err_from_is_err_and c.from_residual-in_err-note.result c.from_residual-in_err-note.ensures.1 in
    rw (p.1, p.2) (λ w k stands placed read_only.
    let point : c.in_ok-known.known.synchpoint ≡ synchpoint k.at_target.trail = ap (λ (s : ReadOnlyState). s.synchpoint) (c.in_ok-known.ensures.state w k stands.sound placed (target_after kept set s0 s0 c.requires.closed w k stands placed (looks_none kept s0))) in
    fails kept s0 s2 w k reports e reports refl (may_back kept s0 s1 looks s2 w (after_action w k reports) e (c.in_err-note.ensures.fault w k (stands_on kept s0 s1 looks w stands) placed read_only point)))

pub returns-in_err-note-clause-blames : goal.returns-in_err-note-clause-blames
returns-in_err-note-clause-blames g c =
    let p = err_from_is_err_and c.from_residual-in_err-note.result c.from_residual-in_err-note.ensures.1 in
    rw (p.1, p.2) (noted_blamed g.K.Keeper.kept c.args.set.now c.args.sites.now c.read_only_state.new.sites c.note.new.sites c.in_ok-known.ensures.ok c.in_err-note.field-0.0 c.in_err-note.ensures.blames)

pub returns-clause-ok : goal.returns-clause-ok
returns-clause-ok g c = λ w k stands placed read_only.
    let kept = g.K.Keeper.kept in
    let s0 = c.args.sites.now in
    let s1 = c.read_only_state.new.sites in
    let s2 = c.note.new.sites in
    let set = c.args.set.now in
    let looks = c.in_ok-known.ensures.ok in
    let point : c.in_ok-known.known.synchpoint ≡ synchpoint k.at_target.trail = ap (λ (s : ReadOnlyState). s.synchpoint) (c.in_ok-known.ensures.state w k stands.sound placed (target_after kept set s0 s0 c.requires.closed w k stands placed (looks_none kept s0))) in
    (become_back kept s0 s1 looks s2 (after_action w k reports) (c.in_ok-note.ensures.ok w k (stands_on kept s0 s1 looks w stands) placed read_only point), ap steps.Report point)
