use Rattle.std.proofs.Common.{◌≡◌, arith}
use Rattle.std.proofs.lemmas.Result.{err_from_is_err_and}
use Rattle.site_store.specs.Words.{Damages, no_memory, goes_none, goes_as}
use Rattle.capture_core.specs.Reading.{TakesCommit, TakesNone, TakesOne}
use Rattle.capture_core.specs.Rules.{rules}
use Rattle.capture_core.proofs.ReadLogs.{read_to, change_taken, abort_taken, commit_taken, unit_was_taken}
use Rattle.capture_core.proofs.reading.take_record.Goals as goal

pub returns-in_err-push-in-Change-clause-fault : goal.returns-in_err-push-in-Change-clause-fault
returns-in_err-push-in-Change-clause-fault g c =
    let p = err_from_is_err_and c.from_residual.result c.from_residual.ensures.1 in
    rw (p.1, p.2) (no_memory g.K.Keeper.kept c.args.sites.now (Damages (λ s. s ≡ c.args.server) rules g.K.Keeper.kept c.args.sites.now))

pub returns-then-pos-progress-clause-ok : goal.returns-then-pos-progress-clause-ok
returns-then-pos-progress-clause-ok g c =
    let p = c.args.progress.now in
    let taken = c.take-changes.new.self in
    let is = c.in-Commit.is in
    goes_none g.K.Keeper.kept c.args.sites.now c.args.server (TakesNone p (read_to p c.args.pos taken) c.args.pos c.args.logged) c.requires.open (commit_taken p c.args.pos c.args.logged taken c.in-Commit.tx c.in-Commit.time c.in-Commit.authid c.in-Commit.origin is (omega (arith, c.if-pos-progress.true)) c.take-changes.ensures.none c.take-changes.ensures.others)

pub returns-in_ok-push-in-Change-clause-ok : goal.returns-in_ok-push-in-Change-clause-ok
returns-in_ok-push-in-Change-clause-ok g c =
    let p = c.args.progress.now in
    let pushed = c.push.new.self in
    goes_none g.K.Keeper.kept c.args.sites.now c.args.server (TakesNone p (read_to p c.args.pos pushed) c.args.pos c.args.logged) c.requires.open (change_taken p c.args.pos c.args.logged pushed c.in-Change.tx c.in-Change.change c.in-Change.is c.in_ok-push-in-Change.ensures.ok c.push.ensures.others)

pub returns-in-Abort-clause-ok : goal.returns-in-Abort-clause-ok
returns-in-Abort-clause-ok g c =
    let p = c.args.progress.now in
    let dropped = c.drop_tx.new.self in
    goes_none g.K.Keeper.kept c.args.sites.now c.args.server (TakesNone p (read_to p c.args.pos dropped) c.args.pos c.args.logged) c.requires.open (abort_taken p c.args.pos c.args.logged dropped c.in-Abort.tx c.in-Abort.is c.drop_tx.ensures.none c.drop_tx.ensures.others)

pub returns-in_ok-take_commit-in-Commit-clause-ok : goal.returns-in_ok-take_commit-in-Commit-clause-ok
returns-in_ok-take_commit-in-Commit-clause-ok g c =
    let p = c.args.progress.now in
    let q = c.take_commit.new.progress in
    let taken = c.take-changes.new.self in
    let u = c.unit_at-unit.result in
    goes_as g.K.Keeper.kept c.args.sites.now c.take_commit.new.sites c.args.server (TakesCommit (read_to p c.args.pos taken) q u) (TakesOne p q c.args.pos c.args.logged) c.requires.open c.in_ok-take_commit-in-Commit.ensures.ok (unit_was_taken p c.args.pos c.args.logged taken q c.in-Commit.tx c.in-Commit.time c.in-Commit.authid c.in-Commit.origin c.take-changes.result u c.in-Commit.is c.unit_at-unit.ensures c.take-changes.ensures.ok (omega (arith, c.if-pos-progress.false)) c.take-changes.ensures.none c.take-changes.ensures.others)
