use Rattle.std.proofs.Common.{◌≡◌, ◌+◌, ◌<◌, ℕ, true, false, List, Some, None, refl, sym, ap, subst, ◌∙◌, ltb-true}
use Rattle.std.proofs.lemmas.Result.{err_from_is_err_and}
use Rattle.world_store.specs.Words.{IsLogRecord, log_spelling, b64, short_text, in_flight_spelling, log_storable}
use Rattle.site_store.specs.Words.{Contents, put_at, GoesOn, write_breaks_after, goes_saw, saw_then}
use Rattle.repl_model.specs.Words.{LogRecord, DefinedTable, log_limit}
use Rattle.repl_types.specs.declared.area.Area.TheVariants as areas
use Rattle.repl_types.specs.declared.record.LogRecord.TheVariants as records
use Rattle.source_log.specs.Fitting.{may_stand}
use Rattle.source_log.specs.Rules.{rules, flight_key, HasTable, IsKnown, IsTableAt}
use Rattle.source_log.specs.Storing.{TakesRecord, TakesKnowing}
use Rattle.source_log.specs.declared.outcome.Outcome.TheVariants as outcomes
use Rattle.source_log.proofs.ChangesTaken.{change_unknown, change_unfit, change_full, change_taken}
use Rattle.source_log.proofs.KnownTables.{known_of, known_stays}
use Rattle.source_log.proofs.MayStand.{short_record}
use Rattle.row_codec.specs.LogRecords.{HasShortRows}
use Rattle.source_log.proofs.taking.take_change.Goals as goal

pub returns-in_default-clause-ok : goal.returns-in_default-clause-ok
returns-in_default-clause-ok g c =
    let kept = g.K.Keeper.kept in
    let s0 = c.args.sites.now in
    let s1 = c.find_table.new.sites in
    let change = c.args.change.now in
    let head = c.args.head.now in
    let known = c.args.known.now in
    let name = c.table_of.result.now in
    let N = λ (d : Contents). IsKnown known d → IsTableAt name None d in
    subst (λ (r : LogRecord). GoesOn kept s0 s1 c.args.server (TakesKnowing known known head r outcomes.NotApplicable)) (sym c.requires.is)
    (goes_saw kept s0 s1 c.args.server N (TakesKnowing known known head (records.Change c.args.tx change) outcomes.NotApplicable) c.requires.open c.in_ok-found.ensures.ok (rw c.in_default.is at c.in_ok-found.ensures.table)
    (λ d at. λ k. (change_unknown head c.args.tx change d (ap (λ (n : List ℕ). d areas.Defs 0 (short_text n)) (sym c.table_of.ensures) ∙ (at k).0), k)))

pub returns-then-not-branch-clause-ok : goal.returns-then-not-branch-clause-ok
returns-then-not-branch-clause-ok g c =
    let kept = g.K.Keeper.kept in
    let s0 = c.args.sites.now in
    let s1 = c.find_table.new.sites in
    let change = c.args.change.now in
    let table = c.in-Some.table in
    let head = c.args.head.now in
    let known = c.args.known.now in
    let name = c.table_of.result.now in
    let N = λ (d : Contents). IsKnown known d → IsTableAt name (Some table) d in
    subst (λ (r : LogRecord). GoesOn kept s0 s1 c.args.server (TakesKnowing known known head r outcomes.NotApplicable)) (sym c.requires.is)
    (goes_saw kept s0 s1 c.args.server N (TakesKnowing known known head (records.Change c.args.tx change) outcomes.NotApplicable) c.requires.open c.in_ok-found.ensures.ok (rw c.in-Some.is at c.in_ok-found.ensures.table)
    (λ d at. λ k. (change_unfit head c.args.tx change d table (ap (λ (n : List ℕ). d areas.Defs 0 (short_text n)) (sym c.table_of.ensures) ∙ (at k).0) (at k).1 (subst (λ (t : DefinedTable). may_stand t.def change ≡ false) c.get.ensures (sym c.in_ok-may_stand.ensures ∙ c.if-not-branch.true)), k)))

pub returns-then-not-has_room-clause-ok : goal.returns-then-not-has_room-clause-ok
returns-then-not-has_room-clause-ok g c =
    let kept = g.K.Keeper.kept in
    let s0 = c.args.sites.now in
    let s1 = c.find_table.new.sites in
    let change = c.args.change.now in
    let table = c.in-Some.table in
    let head = c.args.head.now in
    let known = c.args.known.now in
    let name = c.table_of.result.now in
    let N = λ (d : Contents). IsKnown known d → IsTableAt name (Some table) d in
    subst (λ (r : LogRecord). GoesOn kept s0 s1 c.args.server (TakesKnowing known known head r outcomes.Full)) (sym c.requires.is)
    (goes_saw kept s0 s1 c.args.server N (TakesKnowing known known head (records.Change c.args.tx change) outcomes.Full) c.requires.open c.in_ok-found.ensures.ok (rw c.in-Some.is at c.in_ok-found.ensures.table)
    (λ d at. λ k. (change_full head c.args.tx change d table (record { stands = ap (λ (n : List ℕ). d areas.Defs 0 (short_text n)) (sym c.table_of.ensures) ∙ (at k).0; fits = (at k).1; may = subst (λ (t : DefinedTable). may_stand t.def change ≡ true) c.get.ensures (sym c.in_ok-may_stand.ensures ∙ c.if-not-branch.false) }) (sym c.has_room.ensures ∙ c.if-not-has_room.true), k)))

pub returns-in_err-put_change-clause-fault : goal.returns-in_err-put_change-clause-fault
returns-in_err-put_change-clause-fault g c =
    let p = err_from_is_err_and c.from_residual-in_err-put_change.result c.from_residual-in_err-put_change.ensures.1 in
    rw (p.1, p.2) (write_breaks_after rules g.K.Keeper.kept c.args.sites.now c.find_table.new.sites c.put_change.new.sites c.args.server c.in_err-put_change.field-0.0 c.in_ok-found.ensures.ok c.in_err-put_change.ensures.fault)

pub returns-clause-ok : goal.returns-clause-ok
returns-clause-ok g c =
    let kept = g.K.Keeper.kept in
    let s0 = c.args.sites.now in
    let s1 = c.find_table.new.sites in
    let change = c.args.change.now in
    let table = c.in-Some.table in
    let head = c.args.head.now in
    let known = c.args.known.now in
    let name = c.table_of.result.now in
    let r = records.Change c.args.tx change in
    let N = λ (d : Contents). IsKnown known d → IsTableAt name (Some table) d in
    let typed : IsLogRecord r = subst IsLogRecord c.requires.is c.requires.typed in
    let room : head.last < log_limit = ltb-true head.last log_limit (sym c.has_room.ensures ∙ c.if-not-has_room.false) in
    subst (λ (r : LogRecord). GoesOn kept s0 c.put_change.new.sites c.args.server (TakesKnowing known (Some table) head r outcomes.Taken)) (sym c.requires.is)
    (saw_then kept s0 s1 c.put_change.new.sites c.args.server N (λ d e. e ≡ put_at (put_at d areas.Log 0 (b64 (head.last + 1)) (Some (log_spelling c.args.logged.now))) areas.Inflight 0 (flight_key c.args.tx (head.last + 1)) (Some (in_flight_spelling (record {}))))
    (TakesKnowing known (Some table) head r outcomes.Taken) c.requires.open c.in_ok-found.ensures.ok (rw c.in-Some.is at c.in_ok-found.ensures.table) c.in_ok-put_change.ensures.ok
    (λ d e at puts. λ k.
    let has : HasTable d change table = record { stands = ap (λ (n : List ℕ). d areas.Defs 0 (short_text n)) (sym c.table_of.ensures) ∙ (at k).0; fits = (at k).1; may = subst (λ (t : DefinedTable). may_stand t.def change ≡ true) c.get.ensures (sym c.in_ok-may_stand.ensures ∙ c.if-not-branch.false) } in
    let takes : TakesRecord head r outcomes.Taken d e = change_taken head c.args.tx change d table e typed has room
    (puts ∙ ap (λ (x : LogRecord). put_at (put_at d areas.Log 0 (b64 (head.last + 1)) (Some (log_spelling x))) areas.Inflight 0 (flight_key c.args.tx (head.last + 1)) (Some (in_flight_spelling (record {})))) c.requires.is) in
    (takes, known_stays (Some table) d e (takes.others areas.Defs 0 refl) (known_of change table d has))))

pub put_change-requires-clause-storable : goal.put_change-requires-clause-storable
put_change-requires-clause-storable g c =
    let table = c.in-Some.table in
    let change = c.args.change.now in
    let may = subst (λ (t : DefinedTable). may_stand t.def change ≡ true) c.get.ensures (sym c.in_ok-may_stand.ensures ∙ c.if-not-branch.false) in
    log_storable c.args.logged.now c.requires.typed (subst HasShortRows (sym c.requires.is) (short_record table.def c.args.tx change may))
