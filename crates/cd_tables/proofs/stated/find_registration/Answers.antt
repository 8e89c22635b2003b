use Rattle.std.proofs.Common.{◌<◌, ℕ, List, length, sym, subst, Some, IfSome}
use Rattle.std.proofs.lemmas.Result.{err_from_is_err_and}
use Rattle.site_store.specs.Words.{sees, if_seen, breaks_after, looks_none, looks_then, sees_on}
use Rattle.cd_tables.specs.Rules.{rules, IsRegistrationOf, IsRegistrationIn, FindsRegistration}
use Rattle.cd_tables.proofs.stated.find_registration.Goals as goal

pub returns-in-Some-clause-ok : goal.returns-in-Some-clause-ok
returns-in-Some-clause-ok g c = looks_none g.K.Keeper.kept c.args.sites.now

pub read_state-requires-clause-server : goal.read_state-requires-clause-server
read_state-requires-clause-server g c = subst (λ (l : List (List ℕ)). c.args.server < length l) (sym c.in_ok-found.ensures.ok.stays.passes.names) c.requires.server

pub read_state-requires-clause-found : goal.read_state-requires-clause-found
read_state-requires-clause-found g c =
    let kept = g.K.Keeper.kept in
    let s0 = c.args.sites.now in
    let name = c.args.name.now in
    let reg = c.in-Some-found.reg in
    let fits : IfSome c.in_ok-found.found (IsRegistrationOf name) = c.in_ok-found.ensures.fits in
    sees_on kept s0 c.read_registration.new.sites c.args.server (IsRegistrationIn name reg) c.in_ok-found.ensures.ok (if_seen (sees kept s0 c.args.server) (FindsRegistration name (Some reg)) (IsRegistrationIn name reg) (λ d stands. record { stands = stands; is = rw c.in-Some-found.is at fits }) (rw c.in-Some-found.is at c.in_ok-found.ensures.found))

pub returns-in_err-state-clause-fault : goal.returns-in_err-state-clause-fault
returns-in_err-state-clause-fault g c =
    let p = err_from_is_err_and c.from_residual-in_err-state.result c.from_residual-in_err-state.ensures.1 in
    rw (p.1, p.2) (breaks_after rules g.K.Keeper.kept c.args.sites.now c.read_registration.new.sites c.read_state.new.sites c.args.server c.in_err-state.field-0.0 c.in_ok-found.ensures.ok c.in_err-state.ensures.fault)

pub returns-clause-ok : goal.returns-clause-ok
returns-clause-ok g c = looks_then g.K.Keeper.kept c.args.sites.now c.read_registration.new.sites c.read_state.new.sites c.in_ok-found.ensures.ok c.in_ok-state.ensures.ok
