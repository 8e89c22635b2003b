use Rattle.site_store.specs.Words.{sees}
use Rattle.subs_sets.proofs.StoredStates.{state_is}
use Rattle.subs_sets.proofs.states.set_state.Goals as goal

pub returns-clause-state : goal.returns-clause-state
returns-clause-state g c = λ w k sound placed reveals.
    let set = c.args.set.now in
    let read = c.in_ok-state.ensures in
    state_is w k set (sees g.K.Keeper.kept c.args.sites.now set.target) c.in_ok-state.state sound placed reveals read.fits read.stands
