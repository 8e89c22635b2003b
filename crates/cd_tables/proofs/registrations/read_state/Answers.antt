use Rattle.std.proofs.Common.{refl}
use Rattle.std.proofs.lemmas.Result.{err_from_is_err_and}
use Rattle.world_store.specs.Words.{b32, IsRegistrationState, registration_state_spelling}
use Rattle.site_store.specs.Words.{reads_of_one, sees, if_seen, needed_breaks}
use Rattle.repl_types.specs.declared.area.Area.TheVariants as areas
use Rattle.cd_tables.specs.Rules.{rules, IsRegistrationIn}
use Rattle.cd_tables.proofs.registrations.read_state.Goals as goal

pub returns-in_err-state-clause-fault : goal.returns-in_err-state-clause-fault
returns-in_err-state-clause-fault g c =
    let p = err_from_is_err_and c.from_residual.result c.from_residual.ensures.1 in
    let name = c.args.name.now in
    let reg = c.args.reg.now in
    let key = b32 reg.number in
    rw (p.1, p.2) (needed_breaks rules g.K.Keeper.kept IsRegistrationState registration_state_spelling c.args.sites.now c.get_needed.new.self c.args.server areas.Capture 1 key (reads_of_one 1 c.args.server areas.Capture) c.in_err-state.field-0.0 (λ bytes h. h) (if_seen (sees g.K.Keeper.kept c.args.sites.now c.args.server) (IsRegistrationIn name reg) (rules.is_needed areas.Capture 1 key) (λ d found. (name, reg, refl, found)) c.requires.found) c.in_err-state.ensures.fault)
