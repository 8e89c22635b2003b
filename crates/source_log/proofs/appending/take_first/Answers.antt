use Rattle.std.proofs.Common.{◌+◌, ◌<◌, ℕ, List, None, length, sym, subst}
use Rattle.std.proofs.lemmas.Result.{err_from_is_err_and}
use Rattle.world_store.specs.Words.{IsLogRecord, b64, Head}
use Rattle.site_store.specs.Words.{Contents, IsLastKey, GoesOn, breaks_on, looks_none, goes_saw, goes_as, goes_then, goes_open}
use Rattle.repl_types.specs.declared.area.Area.TheVariants as areas
use Rattle.stored_defs.specs.laws.Standing.{all_at_place}
use Rattle.source_log.specs.Appending.{TakesFirst}
use Rattle.source_log.specs.Rules.{rules, IsKnown}
use Rattle.source_log.specs.Storing.{MayAppend, TakesKnowing}
use Rattle.source_log.specs.declared.outcome.Outcome.{Outcome}
use Rattle.source_log.specs.declared.outcome.Outcome.TheVariants as outcomes
use Rattle.source_log.proofs.Extending.{extended_shown}
use Rattle.source_log.proofs.TakenFirst.{TookSome, took_none, took_more, took_first, took_all}
use Rattle.source_log.proofs.appending.take_first.Goals as goal

pub records-init : goal.records-init
records-init g c =
    let head = c.args.head in
    let N = λ (d : Contents). IsLastKey (d areas.Log 0) (b64 head.last) in
    goes_saw g.K.Keeper.kept c.args.sites.now c.args.sites.now c.args.server N (λ d e. N d × TookSome head c.args.records.now 0 head d e × IsKnown None e) c.requires.open (looks_none g.K.Keeper.kept c.args.sites.now) c.requires.last (λ d n. (n, took_none head c.args.records.now d, tt))

pub take_record-requires-clause-server : goal.take_record-requires-clause-server
take_record-requires-clause-server g c = subst (λ (l : List (List ℕ)). c.args.server < length l) (sym c.records.invariant.works.passes.names) c.requires.server

pub take_record-requires-clause-open : goal.take_record-requires-clause-open
take_record-requires-clause-open g c = goes_open g.K.Keeper.kept c.args.sites.now c.records.sites c.args.server (λ d e. IsLastKey (d areas.Log 0) (b64 c.args.head.last) × TookSome c.args.head c.args.records.now c.records.taken c.records.end d e × IsKnown c.records.known e) c.requires.open c.records.invariant

pub take_record-requires-clause-typed : goal.take_record-requires-clause-typed
take_record-requires-clause-typed g c = subst IsLogRecord (sym c.index-records-taken.is) (all_at_place MayAppend c.args.records.now c.records.taken c.index-records-taken.result c.requires.records c.records-test.true).typed

pub returns-in_err-outcome-clause-fault : goal.returns-in_err-outcome-clause-fault
returns-in_err-outcome-clause-fault g c =
    let head = c.args.head in
    let records = c.args.records.now in
    let n = c.records.taken in
    let end = c.records.end in
    let P = λ (d e : Contents). IsLastKey (d areas.Log 0) (b64 head.last) × TookSome head records n end d e × IsKnown c.records.known e in
    let p = err_from_is_err_and c.from_residual.result c.from_residual.ensures.1 in
    rw (p.1, p.2) (breaks_on rules g.K.Keeper.kept c.args.sites.now c.records.sites c.take_record.new.sites c.args.server P c.in_err-outcome.field-0.0 c.requires.open (λ d e took. extended_shown d e (took.1.extends took.0)) c.records.invariant c.in_err-outcome.ensures.fault)

pub returns-in_default-clause-ok : goal.returns-in_default-clause-ok
returns-in_default-clause-ok g c =
    let kept = g.K.Keeper.kept in
    let s0 = c.args.sites.now in
    let s1 = c.records.sites in
    let s2 = c.take_record.new.sites in
    let server = c.args.server in
    let head = c.args.head in
    let records = c.args.records.now in
    let n = c.records.taken in
    let end = c.records.end in
    let r = c.index-records-taken.result in
    let is = c.index-records-taken.is in
    let lt = c.records-test.true in
    let P = λ (d e : Contents). IsLastKey (d areas.Log 0) (b64 head.last) × TookSome head records n end d e × IsKnown c.records.known e in
    let outcome = c.in_ok-outcome.outcome in
    goes_then kept s0 s1 s2 server P (TakesKnowing c.records.known c.take_record.new.known end r outcome) (TakesFirst head records (record { taken = n; end = end; outcome = outcome })) c.requires.open c.records.invariant c.in_ok-outcome.ensures.ok
    (λ d e f took takes. took_first head records n end d e f took.1 r is lt outcome c.in_default.not-Taken (takes took.2).0)

pub records-preserved : goal.records-preserved
records-preserved g c =
    let kept = g.K.Keeper.kept in
    let s0 = c.args.sites.now in
    let s1 = c.records.sites in
    let s2 = c.take_record.new.sites in
    let server = c.args.server in
    let head = c.args.head in
    let records = c.args.records.now in
    let n = c.records.taken in
    let end = c.records.end in
    let r = c.index-records-taken.result in
    let is = c.index-records-taken.is in
    let lt = c.records-test.true in
    let P = λ (d e : Contents). IsLastKey (d areas.Log 0) (b64 head.last) × TookSome head records n end d e × IsKnown c.records.known e in
    let next = c.head_after-end.result in
    let may : MayAppend r = subst MayAppend (sym is) (all_at_place MayAppend records n r c.requires.records lt) in
    let before = c.records.known in
    let now = c.take_record.new.known in
    let takes : GoesOn kept s1 s2 server (TakesKnowing before now end r outcomes.Taken) = subst (λ (o : Outcome). GoesOn kept s1 s2 server (TakesKnowing before now end r o)) c.in-Taken.is c.in_ok-outcome.ensures.ok in
    goes_then kept s0 s1 s2 server P (TakesKnowing before now end r outcomes.Taken) (λ d e. IsLastKey (d areas.Log 0) (b64 head.last) × TookSome head records (n + 1) next d e × IsKnown now e) c.requires.open c.records.invariant takes
    (λ d e f took takes. let taken = takes took.2 in (took.0, subst (λ (h : Head). TookSome head records (n + 1) h d f) (sym c.head_after-end.ensures) (took_more head records n end d e f took.1 r is lt may taken.0), taken.1))

pub returns-clause-ok : goal.returns-clause-ok
returns-clause-ok g c =
    let kept = g.K.Keeper.kept in
    let head = c.args.head in
    let records = c.args.records.now in
    let n = c.records.taken in
    let end = c.records.end in
    let P = λ (d e : Contents). IsLastKey (d areas.Log 0) (b64 head.last) × TookSome head records n end d e × IsKnown c.records.known e in
    goes_as kept c.args.sites.now c.records.sites c.args.server P (TakesFirst head records (record { taken = length records; end = end; outcome = outcomes.Taken })) c.requires.open c.records.invariant (λ d e took. took_all head records n end d e c.records-test.false took.1)
