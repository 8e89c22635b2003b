use Rattle.std.proofs.Common.{◌≡◌, ◌+◌, ◌<◌, List, None, length, false, refl, sym, ap, subst, ◌∙◌, arith, nat_le, leb-true}
use Rattle.std.specs.List.{AllByRecursion}
use Rattle.std.proofs.lemmas.Result.{err_from_is_err_and}
use Rattle.world_store.specs.Words.{b64}
use Rattle.site_store.specs.Words.{Contents, IsLastKey, Stops, goes_saw, goes_then, saw_then, looks_open}
use Rattle.repl_model.specs.Words.{Placed, log_limit}
use Rattle.repl_types.specs.declared.area.Area.TheVariants as areas
use Rattle.source_log.specs.Rules.{EndIs}
use Rattle.source_log.specs.Units.{own_change, MayBePut, PutsChanges, PutsCommit, AppendsIfRoom, AppendsUnit, ShowsBadTable}
use Rattle.source_log.proofs.UnitTables.{unit_end_fails, unit_tables_fail, unit_commit_fails}
use Rattle.source_log.proofs.UnitsPut.{changes_may, commit_may, no_room, unit_appended}
use Rattle.source_log.proofs.units.put_unit.Goals as goal

pub returns-in_err-head-clause-fault : goal.returns-in_err-head-clause-fault
returns-in_err-head-clause-fault g c =
    let p = err_from_is_err_and c.from_residual.result c.from_residual.ensures.1 in
    rw (p.1, p.2) (unit_end_fails g.K.Keeper.kept c.args.sites.now c.read_end.new.sites c.args.server c.args.unit.now c.in_err-head.field-0.0 c.in_err-head.ensures.fault)

pub returns-then-not-has_room_for-clause-ok : goal.returns-then-not-has_room_for-clause-ok
returns-then-not-has_room_for-clause-ok g c =
    let head = c.in_ok-head.head in
    let unit = c.args.unit.now in
    let full : nat_le (head.last + length unit.changes + 1) log_limit ≡ false = ap (λ (l : List Placed). nat_le (head.last + length l + 1) log_limit) (sym c.as_slice-changes.ensures) ∙ sym c.has_room_for.ensures ∙ c.if-not-has_room_for.true in
    goes_saw g.K.Keeper.kept c.args.sites.now c.read_end.new.sites c.args.server (λ d. EndIs head d × IsLastKey (d areas.Log 0) (b64 head.last)) (AppendsIfRoom unit None) c.requires.open c.in_ok-head.ensures.ok c.in_ok-head.ensures.end
    (λ d n. (refl, no_room unit d head c.in_ok-head.ensures.fits n.0 full))

pub put_changes-requires-clause-records : goal.put_changes-requires-clause-records
put_changes-requires-clause-records g c = subst (AllByRecursion (λ placed. MayBePut (own_change placed))) (sym c.as_slice-changes.ensures) (changes_may c.args.unit.now c.requires.records)

pub returns-in_err-put_changes-clause-fault : goal.returns-in_err-put_changes-clause-fault
returns-in_err-put_changes-clause-fault g c =
    let kept = g.K.Keeper.kept in
    let s1 = c.read_end.new.sites in
    let s2 = c.put_changes.new.sites in
    let server = c.args.server in
    let e = c.in_err-put_changes.field-0.0 in
    let p = err_from_is_err_and c.from_residual-in_err-put_changes.result c.from_residual-in_err-put_changes.ensures.1 in
    rw (p.1, p.2) (unit_tables_fail kept c.args.sites.now s1 server c.args.unit.now s2 e c.in_ok-head.ensures.ok (subst (λ (l : List Placed). Stops kept s1 s2 (ShowsBadTable kept s1 server l) e) c.as_slice-changes.ensures c.in_err-put_changes.ensures.fault))

pub put_commit-requires-clause-record : goal.put_commit-requires-clause-record
put_commit-requires-clause-record g c = commit_may c.args.unit.now c.requires.records

pub returns-in_err-put_commit-clause-fault : goal.returns-in_err-put_commit-clause-fault
returns-in_err-put_commit-clause-fault g c =
    let p = err_from_is_err_and c.from_residual-in_err-put_commit.result c.from_residual-in_err-put_commit.ensures.1 in
    rw (p.1, p.2) (unit_commit_fails g.K.Keeper.kept c.args.sites.now c.read_end.new.sites c.args.server c.args.unit.now c.put_changes.new.sites c.put_commit.new.sites (PutsChanges c.in_ok-head.head.last c.as_slice-changes.result.now) c.in_err-put_commit.field-0.0 c.in_ok-head.ensures.ok c.in_ok-put_changes.ensures.ok c.in_err-put_commit.ensures.fault)

pub returns-clause-ok : goal.returns-clause-ok
returns-clause-ok g c =
    let kept = g.K.Keeper.kept in
    let s0 = c.args.sites.now in
    let s1 = c.read_end.new.sites in
    let s2 = c.put_changes.new.sites in
    let s3 = c.put_commit.new.sites in
    let server = c.args.server in
    let head = c.in_ok-head.head in
    let unit = c.args.unit.now in
    let slice = c.as_slice-changes.result.now in
    let same = c.as_slice-changes.ensures in
    let fit = leb-true (head.last + length slice + 1) log_limit (sym c.has_room_for.ensures ∙ c.if-not-has_room_for.false) in
    let Q = λ (l : List Placed) (d f : Contents). (m : Contents) × PutsChanges head.last l d m × PutsCommit (head.last + length l + 1) unit.head m f in
    let puts = goes_then kept s1 s2 s3 server (PutsChanges head.last slice) (PutsCommit (head.last + length slice + 1) unit.head) (Q slice) (looks_open kept s0 s1 server c.requires.open c.in_ok-head.ensures.ok) c.in_ok-put_changes.ensures.ok c.in_ok-put_commit.ensures.ok (λ d m f p q. (m, p, q)) in
    saw_then kept s0 s1 s3 server (λ d. EndIs head d × IsLastKey (d areas.Log 0) (b64 head.last)) (Q slice) (AppendsUnit unit (head.last + length slice + 1)) c.requires.open c.in_ok-head.ensures.ok c.in_ok-head.ensures.end puts
    (λ d f n q. subst (λ (l : List Placed). head.last + length l < log_limit → Q l d f → AppendsUnit unit (head.last + length l + 1) d f) (sym same)
    (λ room r. unit_appended unit head c.in_ok-head.ensures.fits d r.0 f n.0 room r.1 r.2) (omega (arith, fit)) q)
