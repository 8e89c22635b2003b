use Rattle.std.proofs.Common.{refl}
use Rattle.std.proofs.lemmas.Result.{err_from_is_err_and}
use Rattle.world_store.specs.Words.{b32, IsRegistrationState, registration_state_spelling}
use Rattle.site_store.specs.Words.{reads_of_one, sees, if_seen, needed_breaks}
use Rattle.repl_types.specs.declared.area.Area.TheVariants as areas
use Rattle.cd_tables.specs.StoredRows.{HasRegistrationNumbered, row_rules}
use Rattle.cd_tables.proofs.finding.reg_state.Goals as goal

pub returns-in_err-state-clause-fault : goal.returns-in_err-state-clause-fault
returns-in_err-state-clause-fault g c =
    let p = err_from_is_err_and c.from_residual.result c.from_residual.ensures.1 in
    let reg = c.args.reg in
    rw (p.1, p.2) (needed_breaks row_rules g.K.Keeper.kept IsRegistrationState registration_state_spelling c.args.sites.now c.get_needed.new.self c.args.server areas.Capture 1 (b32 reg) (reads_of_one 1 c.args.server areas.Capture) c.in_err-state.field-0.0 (λ bytes h. h) (if_seen (sees g.K.Keeper.kept c.args.sites.now c.args.server) (HasRegistrationNumbered reg) (row_rules.is_needed areas.Capture 1 (b32 reg)) (λ d stands. (reg, refl, stands)) c.requires.registered) c.in_err-state.ensures.fault)
