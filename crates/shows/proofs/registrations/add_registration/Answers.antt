use Rattle.std.proofs.Common.{sym, ◌∙◌, arith}
use Rattle.world_store.specs.Words.{b32, registration_state_spelling, IsRegistrationState}
use Rattle.site_store.specs.Words.{sees, if_seen}
use Rattle.repl_model.specs.Words.{defined_registration_spelling}
use Rattle.repl_types.specs.declared.area.Area.TheVariants as areas
use Rattle.stored_defs.specs.Reading.{AllStand}
use Rattle.shows.specs.servers.Rules.{rules, reads_at}
use Rattle.shows.proofs.Contents.{registration_passed, registration_read, registration_stands}
use Rattle.shows.proofs.ReadingOne.{one_at, needed_fails}
use Rattle.shows.proofs.Passed.{passed}
use Rattle.shows.proofs.registrations.add_registration.Goals as goal

pub returns-in_default-clause-added : goal.returns-in_default-clause-added
returns-in_default-clause-added g c = λ w is_world are. registration_passed g.K.Keeper.kept c.args.sites.now c.requires.closed w is_world c.args.server c.requires.server c.args.number c.args.text.now.items c.args.rows.now are (sym c.in_default.ensures)

pub returns-in_err-state-clause-fault : goal.returns-in_err-state-clause-fault
returns-in_err-state-clause-fault g c =
    let kept = g.K.Keeper.kept in
    let s0 = c.args.sites.now in
    let key = b32 c.args.number in
    passed c.from_residual.result _ _ c.from_residual.ensures.1 (needed_fails kept IsRegistrationState registration_state_spelling s0 c.get_needed.new.self c.args.server areas.Capture 1 key (reads_at 1 c.args.server) c.in_err-state.field-0.0 c.requires.server (λ bytes h. h)
    (if_seen (sees kept s0 c.args.server) (AllStand defined_registration_spelling areas.Defs 1 c.args.rows.now) (rules.is_needed areas.Capture 1 key) (λ d all. registration_stands d c.args.number c.args.rows.now c.in-Some.row.now all (sym c.in-Some.ensures)) c.requires.stand)
    (one_at 1 1 c.args.server areas.Capture (omega arith)) c.in_err-state.ensures.fault)

pub returns-clause-added : goal.returns-clause-added
returns-clause-added g c = λ w is_world are. c.in_ok-write_registration.ensures ∙ registration_read g.K.Keeper.kept c.args.sites.now c.requires.closed w is_world c.args.server c.requires.server c.args.number c.args.text.now.items c.args.rows.now are c.in-Some.row.now c.in_ok-state.state (sym c.in-Some.ensures) c.in_ok-state.ensures.row
