use Rattle.site_store.specs.Words.{goes_as}
use Rattle.stored_commits.specs.units.StoredChanges.{with_rows_of, started, stopped, with_change}
use Rattle.cd_tables.specs.Appending.{Becomes}
use Rattle.cd_tables.proofs.Carried.{carries_start, carries_stop, carries_rows}
use Rattle.cd_tables.proofs.changes.carry_out.Goals as goal

pub returns-in_ok-start-in-Start-clause-ok : goal.returns-in_ok-start-in-Start-clause-ok
returns-in_ok-start-in-Start-clause-ok g c =
    let seq = c.args.seq in
    let placed = c.args.placed.now in
    let reg = c.args.reg.now in
    let state = c.args.state.now in
    goes_as g.K.Keeper.kept c.args.sites.now c.start.new.sites c.args.server (Becomes (started seq reg.number state)) (Becomes (with_change seq placed reg state)) c.requires.open c.in_ok-start-in-Start.ensures.ok (λ d e now. carries_start seq placed reg state d e c.in-Start.table c.in-Start.is now)

pub returns-in_ok-stop-in-Stop-clause-ok : goal.returns-in_ok-stop-in-Stop-clause-ok
returns-in_ok-stop-in-Stop-clause-ok g c =
    let seq = c.args.seq in
    let placed = c.args.placed.now in
    let reg = c.args.reg.now in
    let state = c.args.state.now in
    goes_as g.K.Keeper.kept c.args.sites.now c.stop.new.sites c.args.server (Becomes (stopped reg.number state)) (Becomes (with_change seq placed reg state)) c.requires.open c.in_ok-stop-in-Stop.ensures.ok (λ d e now. carries_stop seq placed reg state d e c.in-Stop.table c.in-Stop.is now)

pub returns-in_ok-rows-in-Insert-clause-ok : goal.returns-in_ok-rows-in-Insert-clause-ok
returns-in_ok-rows-in-Insert-clause-ok g c =
    let seq = c.args.seq in
    let placed = c.args.placed.now in
    let reg = c.args.reg.now in
    let state = c.args.state.now in
    goes_as g.K.Keeper.kept c.args.sites.now c.put_rows_of.new.sites c.args.server (Becomes (with_rows_of seq placed reg state)) (Becomes (with_change seq placed reg state)) c.requires.open c.in_ok-rows-in-Insert.ensures.ok (λ d e now. carries_rows seq placed reg state d e c.in-Insert.is now)
