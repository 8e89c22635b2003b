use Rattle.std.proofs.Common.{Some}
use Rattle.std.proofs.lemmas.Result.{err_from_is_err_and}
use Rattle.world_store.specs.Words.{b32, registration_state_spelling}
use Rattle.site_store.specs.Words.{Sets, GoesOn, breaks_on, goes_none, goes_as, goes_put, goes_then}
use Rattle.repl_types.specs.declared.area.Area.TheVariants as areas
use Rattle.stored_commits.specs.units.StoredChanges.{with_cleared, with_state, stopped}
use Rattle.cd_tables.specs.Appending.{Becomes}
use Rattle.cd_tables.specs.Rules.{rules}
use Rattle.cd_tables.proofs.Shown.{becomes_state}
use Rattle.cd_tables.proofs.Signals.{inactive_state, stop_nothing, stop_made}
use Rattle.cd_tables.proofs.changes.stop.Goals as goal

pub returns-then-not-state-clause-ok : goal.returns-then-not-state-clause-ok
returns-then-not-state-clause-ok g c =
    let number = c.args.number in
    let state = c.args.state.now in
    goes_none g.K.Keeper.kept c.args.sites.now c.args.server (Becomes (stopped number state)) c.requires.open (λ d. stop_nothing number state d c.if-not-state.true)

pub returns-in_err-clear_changes-clause-fault : goal.returns-in_err-clear_changes-clause-fault
returns-in_err-clear_changes-clause-fault g c =
    let kept = g.K.Keeper.kept in
    let s0 = c.args.sites.now in
    let s1 = c.put.new.self in
    let server = c.args.server in
    let number = c.args.number in
    let left = inactive_state c.args.state.now in
    let key = b32 number in
    let value = registration_state_spelling left in
    let puts : GoesOn kept s0 s1 server (Becomes (with_state number left)) = goes_as kept s0 s1 server (Sets areas.Capture 1 key (Some value)) (Becomes (with_state number left)) c.requires.open (goes_put kept s0 s1 server areas.Capture 1 key (Some value) c.in_ok-put.ensures.ok) (λ d e sets. becomes_state number left d e c.requires.fits sets) in
    let p = err_from_is_err_and c.from_residual-in_err-clear_changes.result c.from_residual-in_err-clear_changes.ensures.1 in
    rw (p.1, p.2) (breaks_on rules kept s0 s1 c.clear_changes.new.sites server (Becomes (with_state number left)) c.in_err-clear_changes.field-0.0 c.requires.open (λ d e now. now.1) puts c.in_err-clear_changes.ensures.fault)

pub returns-clause-ok : goal.returns-clause-ok
returns-clause-ok g c =
    let kept = g.K.Keeper.kept in
    let s0 = c.args.sites.now in
    let s1 = c.put.new.self in
    let server = c.args.server in
    let number = c.args.number in
    let state = c.args.state.now in
    let left = inactive_state state in
    let key = b32 number in
    let value = registration_state_spelling left in
    goes_then kept s0 s1 c.clear_changes.new.sites server (Sets areas.Capture 1 key (Some value)) (Becomes (with_cleared number)) (Becomes (stopped number state)) c.requires.open (goes_put kept s0 s1 server areas.Capture 1 key (Some value) c.in_ok-put.ensures.ok) c.in_ok-clear_changes.ensures.ok (λ d e f sets clears. stop_made number state d e f c.if-not-state.false (becomes_state number left d e c.requires.fits sets) clears)
