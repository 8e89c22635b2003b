use Rattle.std.proofs.Common.{◌≡◌}
use Rattle.site_store.specs.Words.{Damages}
use Rattle.subs_sets.specs.Rules.{state_rules}
use Rattle.subs_sets.proofs.NoDamage.{stops_closed}
use Rattle.subs_sets.proofs.states.read_only_state.Goals as goal

pub returns-in-Err-clause-fault : goal.returns-in-Err-clause-fault
returns-in-Err-clause-fault g c =
    let kept = g.K.Keeper.kept in
    let s0 = c.args.sites.now in
    stops_closed kept s0 c.stored_points.new.sites c.rollback_all.new.self (Damages (λ s. s ≡ c.args.set.now.target) state_rules kept s0) c.in-Err.e c.in-Err.ensures.fault c.rollback_all.ensures
