use Rattle.std.proofs.Common.{◌<◌, ℕ, List, None, length, sym, subst, Option, Some, IfSome}
use Rattle.std.proofs.lemmas.Result.{err_from_is_err_and}
use Rattle.site_store.specs.Words.{Contents, breaks_after, goes_saw, saw_then, looks_open}
use Rattle.stored_commits.specs.units.StoredChanges.{with_change}
use Rattle.cd_tables.specs.Appending.{Becomes}
use Rattle.cd_tables.specs.Known.{IsStated, IsStatedOf, IsFoundAt, IsKnown, AppendsKnowing}
use Rattle.cd_tables.specs.Rules.{rules, IsRegistrationOf}
use Rattle.cd_tables.specs.declared.stated.StatedRegistration.{StatedRegistration}
use Rattle.cd_tables.proofs.Carried.{appends_nothing, appends_rows}
use Rattle.cd_tables.proofs.KnownRegistrations.{stated_itself, stated_after, found_known, known_stays}
use Rattle.cd_tables.proofs.changes.append_change.Goals as goal

pub returns-in_default-clause-ok : goal.returns-in_default-clause-ok
returns-in_default-clause-ok g c =
    let known = c.args.known in
    let placed = c.args.placed.now in
    let name = c.table_of-name.result.now in
    goes_saw g.K.Keeper.kept c.args.sites.now c.find_registration.new.sites c.args.server (λ (d : Contents). IsKnown known d → IsFoundAt name None d) (AppendsKnowing known None c.args.seq placed 0) c.requires.open c.in_ok-found.ensures.ok (rw c.in_default.is at c.in_ok-found.ensures.found) (λ d here k. (appends_nothing c.args.seq placed name c.table_of-name.ensures d (here k), tt))

pub carry_out-requires-clause-server : goal.carry_out-requires-clause-server
carry_out-requires-clause-server g c = subst (λ (l : List (List ℕ)). c.args.server < length l) (sym c.in_ok-found.ensures.ok.stays.passes.names) c.requires.server

pub carry_out-requires-clause-open : goal.carry_out-requires-clause-open
carry_out-requires-clause-open g c = looks_open g.K.Keeper.kept c.args.sites.now c.find_registration.new.sites c.args.server c.requires.open c.in_ok-found.ensures.ok

pub carry_out-requires-clause-of : goal.carry_out-requires-clause-of
carry_out-requires-clause-of g c =
    let fits : IfSome c.in_ok-found.found (IsStatedOf c.table_of-name.result.now) = c.in_ok-found.ensures.fits in
    subst (λ (name : List ℕ). IsRegistrationOf name c.in-Some.at.reg) c.table_of-name.ensures (rw c.in-Some.is at fits).0

pub carry_out-requires-clause-fits : goal.carry_out-requires-clause-fits
carry_out-requires-clause-fits g c =
    let fits : IfSome c.in_ok-found.found (IsStatedOf c.table_of-name.result.now) = c.in_ok-found.ensures.fits in
    (rw c.in-Some.is at fits).1

pub returns-in_err-rows-clause-fault : goal.returns-in_err-rows-clause-fault
returns-in_err-rows-clause-fault g c =
    let p = err_from_is_err_and c.from_residual-in_err-rows.result c.from_residual-in_err-rows.ensures.1 in
    rw (p.1, p.2) (breaks_after rules g.K.Keeper.kept c.args.sites.now c.find_registration.new.sites c.carry_out.new.sites c.args.server c.in_err-rows.field-0.0 c.in_ok-found.ensures.ok c.in_err-rows.ensures.fault)

pub returns-clause-ok : goal.returns-clause-ok
returns-clause-ok g c =
    let kept = g.K.Keeper.kept in
    let s0 = c.args.sites.now in
    let server = c.args.server in
    let seq = c.args.seq in
    let placed = c.args.placed.now in
    let known = c.args.known in
    let rows = c.in_ok-rows.rows in
    let name = c.table_of-name.result.now in
    let at = c.in-Some.at in
    let after = c.known_after-known.result in
    let fits : IfSome c.in_ok-found.found (IsStatedOf name) = c.in_ok-found.ensures.fits in
    let of : IsStatedOf name at = rw c.in-Some.is at fits in
    saw_then kept s0 c.find_registration.new.sites c.carry_out.new.sites server (λ (d : Contents). IsKnown known d → IsFoundAt name (Some at) d) (Becomes (with_change seq placed at.reg at.state)) (AppendsKnowing known after seq placed rows) c.requires.open c.in_ok-found.ensures.ok (rw c.in-Some.is at c.in_ok-found.ensures.found) c.in_ok-rows.ensures.ok
    (λ d e here now k. (appends_rows seq placed name c.table_of-name.ensures rows at.reg at.state d e of.0 (here k) c.in_ok-rows.ensures.count.0 now, subst (λ (k : Option StatedRegistration). IsKnown k e) (sym c.known_after-known.ensures) (known_stays seq placed at d e now.0 (found_known name at of d (here k)))))

pub returns-clause-fits : goal.returns-clause-fits
returns-clause-fits g c =
    let fits : IfSome c.in_ok-found.found (IsStatedOf c.table_of-name.result.now) = c.in_ok-found.ensures.fits in
    subst (λ (k : Option StatedRegistration). IfSome k IsStated) (sym c.known_after-known.ensures) (stated_after c.args.placed.now.change c.in-Some.at (stated_itself c.table_of-name.result.now c.in-Some.at (rw c.in-Some.is at fits)))
