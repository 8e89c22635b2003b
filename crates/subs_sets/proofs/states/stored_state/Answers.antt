use Rattle.std.proofs.lemmas.Result.{err_from_is_err_and}
use Rattle.world_store.specs.Words.{b32, state_spelling, IsState}
use Rattle.site_store.specs.Words.{reads_of_one, get_breaks}
use Rattle.repl_types.specs.declared.area.Area.TheVariants as areas
use Rattle.subs_sets.specs.Rules.{state_rules}
use Rattle.subs_sets.proofs.states.stored_state.Goals as goal

pub returns-in_err-state-clause-fault : goal.returns-in_err-state-clause-fault
returns-in_err-state-clause-fault g c =
    let p = err_from_is_err_and c.from_residual.result c.from_residual.ensures.1 in
    let set = c.args.set.now in
    rw (p.1, p.2) (get_breaks state_rules g.K.Keeper.kept IsState state_spelling c.args.sites.now c.get_state.new.self set.target areas.SetState 0 (b32 set.at_target.number) (reads_of_one 1 set.target areas.SetState) c.in_err-state.field-0.0 (λ bytes h. h) c.in_err-state.ensures.fault)
