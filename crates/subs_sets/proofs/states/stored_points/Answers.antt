use Rattle.std.proofs.Common.{◌≡◌, Some, true, not, sym, ap, subst, ◌∙◌, IfSome}
use Rattle.world_store.specs.Words.{b32, state_spelling, IsState, SetState}
use Rattle.site_store.specs.Words.{sees, unfit_breaks, if_both_seen}
use Rattle.repl_model.specs.Words.{SetDef, is_replica_set}
use Rattle.repl_types.specs.declared.area.Area.TheVariants as areas
use Rattle.repl_records.specs.declared.set_state.SetState.TheVariants as states
use Rattle.set_places.specs.Places.{HasTargetRow}
use Rattle.subs_sets.specs.Rules.{state_rules}
use Rattle.subs_sets.specs.States.{HasState}
use Rattle.subs_sets.proofs.StoredStates.{state_is, parts_of, parts_are, unfit_there}
use Rattle.subs_sets.proofs.states.stored_points.Goals as goal

pub returns-in-ReadOnly-clause-state : goal.returns-in-ReadOnly-clause-state
returns-in-ReadOnly-clause-state g c = λ w k sound placed reveals.
    let set = c.args.set.now in
    let read = c.in_ok-state.ensures in
    ap parts_of (sym c.in-ReadOnly.is ∙ state_is w k set (sees g.K.Keeper.kept c.args.sites.now set.target) c.in_ok-state.state sound placed reveals read.fits read.stands)
    ∙ parts_are w k (subst (λ (def : SetDef). not (is_replica_set def) ≡ true) placed.target_def c.requires.read_only)

pub returns-in-ReadOnly-clause-zeros : goal.returns-in-ReadOnly-clause-zeros
returns-in-ReadOnly-clause-zeros g c = (subst IsState c.in-ReadOnly.is c.in_ok-state.ensures.fits).1

pub returns-in-Replica-clause-fault : goal.returns-in-Replica-clause-fault
returns-in-Replica-clause-fault g c =
    let kept = g.K.Keeper.kept in
    let s0 = c.args.sites.now in
    let set = c.args.set.now in
    let r = c.in-Replica in
    let key = b32 set.at_target.number in
    let state : SetState = states.Replica r.has_points r.m r.f r.signal r.entries in
    let bytes = state_spelling state in
    let saw = sees kept s0 set.target in
    let fits : IsState state = subst IsState r.is c.in_ok-state.ensures.fits in
    let stands : IfSome saw (HasState set.at_target state) = subst (λ (s : SetState). IfSome saw (HasState set.at_target s)) r.is c.in_ok-state.ensures.stands in
    unfit_breaks state_rules kept s0 c.stored_state.new.sites c.unfit.new.self set.target areas.SetState 0 key bytes c.unfit.result c.in_ok-state.ensures.ok
    (if_both_seen saw (HasTargetRow set.at_target) (HasState set.at_target state) (λ d. d areas.SetState 0 key ≡ Some bytes) (λ d row has. (unfit_there set.at_target r.has_points r.m r.f r.signal r.entries d c.requires.placed.fits c.requires.read_only fits row has).0) c.requires.placed.row stands)
    (if_both_seen saw (HasTargetRow set.at_target) (HasState set.at_target state) (state_rules.is_unfit areas.SetState 0 key bytes) (λ d row has. (unfit_there set.at_target r.has_points r.m r.f r.signal r.entries d c.requires.placed.fits c.requires.read_only fits row has).1) c.requires.placed.row stands)
    c.unfit.ensures.closes (rw r.is at c.unfit.ensures.fault)
