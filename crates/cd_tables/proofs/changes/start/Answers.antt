use Rattle.std.proofs.Common.{true, Some}
use Rattle.world_store.specs.Words.{b32, registration_state_spelling}
use Rattle.site_store.specs.Words.{Sets, goes_none, goes_as, goes_put}
use Rattle.repl_types.specs.declared.area.Area.TheVariants as areas
use Rattle.stored_commits.specs.units.StoredChanges.{started}
use Rattle.cd_tables.specs.Appending.{Becomes}
use Rattle.cd_tables.proofs.Signals.{start_nothing, start_made}
use Rattle.cd_tables.proofs.changes.start.Goals as goal

pub returns-then-state-clause-ok : goal.returns-then-state-clause-ok
returns-then-state-clause-ok g c =
    let seq = c.args.seq in
    let number = c.args.number in
    let state = c.args.state.now in
    goes_none g.K.Keeper.kept c.args.sites.now c.args.server (Becomes (started seq number state)) c.requires.open (λ d. start_nothing seq number state d c.if-state.true)

pub returns-clause-ok : goal.returns-clause-ok
returns-clause-ok g c =
    let seq = c.args.seq in
    let number = c.args.number in
    let state = c.args.state.now in
    let key = b32 number in
    let value = registration_state_spelling (record { active = true; start = seq; floor = state.floor }) in
    goes_as g.K.Keeper.kept c.args.sites.now c.put.new.self c.args.server (Sets areas.Capture 1 key (Some value)) (Becomes (started seq number state)) c.requires.open (goes_put g.K.Keeper.kept c.args.sites.now c.put.new.self c.args.server areas.Capture 1 key (Some value) c.in_ok-put.ensures.ok) (λ d e sets. start_made seq number state d e c.if-state.false (c.ranges.seq.fits, c.requires.fits.1) sets)
