use Rattle.std.proofs.Common.{◌≡◌, Some, refl, ap, subst, ◌∙◌, Option, IfSome}
use Rattle.std.proofs.lemmas.Result.{err_from_is_err_and}
use Rattle.world_store.specs.Words.{IsLogRecord, log_spelling, b64}
use Rattle.site_store.specs.Words.{Contents, reads_of_one, RowIs, sees, needed_breaks, breaks_after, sees_on, sees_back, looks_then, if_seen, if_both_seen}
use Rattle.repl_model.specs.Words.{Change, LogRecord}
use Rattle.repl_types.specs.declared.area.Area.TheVariants as areas
use Rattle.repl_types.specs.declared.record.LogRecord.TheVariants as records
use Rattle.source_log.specs.Making.{IsStepAt}
use Rattle.source_log.specs.Rules.{rules, IsInFlight, IsLogged, IsKnown, HasTable}
use Rattle.source_log.proofs.Strays.{other_record, IsStray}
use Rattle.stored_commits.specs.laws.StoredRows.{typed_rows}
use Rattle.source_log.proofs.steps.read_step.Goals as goal

pub returns-in_err-logged-clause-fault : goal.returns-in_err-logged-clause-fault
returns-in_err-logged-clause-fault g c =
    let p = err_from_is_err_and c.from_residual.result c.from_residual.ensures.1 in
    let key = b64 c.args.pos in
    rw (p.1, p.2) (needed_breaks rules g.K.Keeper.kept IsLogRecord log_spelling c.args.sites.now c.get_needed.new.self c.args.server areas.Log 0 key (reads_of_one 1 c.args.server areas.Log) c.in_err-logged.field-0.0 (λ bytes h. h) (if_seen (sees g.K.Keeper.kept c.args.sites.now c.args.server) (λ d. IsInFlight c.args.tx d c.args.pos) (rules.is_needed areas.Log 0 key) (λ d h. (c.args.tx, c.args.pos, refl, h)) c.requires.in_flight) c.in_err-logged.ensures.fault)

pub stray-requires-clause-stray : goal.stray-requires-clause-stray
stray-requires-clause-stray g c =
    let kept = g.K.Keeper.kept in
    let s0 = c.args.sites.now in
    let logged = c.in_ok-logged.logged in
    sees_on kept s0 c.get_needed.new.self c.args.server (IsStray c.args.tx c.args.pos) (record { most = reads_of_one 1 c.args.server areas.Log; stays = c.in_ok-logged.ensures.ok.stays }) (if_both_seen (sees kept s0 c.args.server) (λ d. IsInFlight c.args.tx d c.args.pos) (RowIs log_spelling areas.Log 0 (b64 c.args.pos) (Some logged)) (IsStray c.args.tx c.args.pos) (λ d h row. other_record c.args.tx c.args.pos logged d h c.in_ok-logged.ensures.fits.fits (c.change_of.ensures.none c.in_default.is) row) c.requires.in_flight c.in_ok-logged.ensures.row)

pub returns-in_default-clause-fault : goal.returns-in_default-clause-fault
returns-in_default-clause-fault g c = breaks_after rules g.K.Keeper.kept c.args.sites.now c.get_needed.new.self c.stray.new.sites c.args.server c.stray.result (record { most = reads_of_one 1 c.args.server areas.Log; stays = c.in_ok-logged.ensures.ok.stays }) c.stray.ensures

pub read_table-requires-clause-in_flight : goal.read_table-requires-clause-in_flight
read_table-requires-clause-in_flight g c =
    let kept = g.K.Keeper.kept in
    let s0 = c.args.sites.now in
    let logged = c.in_ok-logged.logged in
    let change = c.in-Some.change in
    let is : logged ≡ records.Change c.args.tx change = subst (λ (o : Option Change). IfSome o (λ x. logged ≡ records.Change c.args.tx x)) c.in-Some.is c.change_of.ensures.some in
    let P = λ (d : Contents). IsInFlight c.args.tx d c.args.pos × IsLogged c.args.tx d c.args.pos change in
    sees_on kept s0 c.get_needed.new.self c.args.server P (record { most = reads_of_one 1 c.args.server areas.Log; stays = c.in_ok-logged.ensures.ok.stays }) (if_both_seen (sees kept s0 c.args.server) (λ d. IsInFlight c.args.tx d c.args.pos) (RowIs log_spelling areas.Log 0 (b64 c.args.pos) (Some logged)) P (λ d h row. (h, row ∙ ap (λ (r : LogRecord). Some (log_spelling r)) is)) c.requires.in_flight c.in_ok-logged.ensures.row)

pub read_table-requires-clause-typed : goal.read_table-requires-clause-typed
read_table-requires-clause-typed g c =
    let is : c.in_ok-logged.logged ≡ records.Change c.args.tx c.in-Some.change = subst (λ (o : Option Change). IfSome o (λ x. c.in_ok-logged.logged ≡ records.Change c.args.tx x)) c.in-Some.is c.change_of.ensures.some in
    subst IsLogRecord is c.in_ok-logged.ensures.fits.fits

pub returns-in_err-table-clause-fault : goal.returns-in_err-table-clause-fault
returns-in_err-table-clause-fault g c =
    let p = err_from_is_err_and c.from_residual-in_err-table.result c.from_residual-in_err-table.ensures.1 in
    rw (p.1, p.2) (breaks_after rules g.K.Keeper.kept c.args.sites.now c.get_needed.new.self c.read_table.new.sites c.args.server c.in_err-table.field-0.0 (record { most = reads_of_one 1 c.args.server areas.Log; stays = c.in_ok-logged.ensures.ok.stays }) c.in_err-table.ensures.fault)

pub returns-clause-ok : goal.returns-clause-ok
returns-clause-ok g c = looks_then g.K.Keeper.kept c.args.sites.now c.get_needed.new.self c.read_table.new.sites (record { most = reads_of_one 1 c.args.server areas.Log; stays = c.in_ok-logged.ensures.ok.stays }) c.in_ok-table.ensures.ok

pub returns-clause-step : goal.returns-clause-step
returns-clause-step g c =
    let kept = g.K.Keeper.kept in
    let s0 = c.args.sites.now in
    let logged = c.in_ok-logged.logged in
    let change = c.in-Some.change in
    let table = c.in_ok-table.table in
    let is : logged ≡ records.Change c.args.tx change = subst (λ (o : Option Change). IfSome o (λ x. logged ≡ records.Change c.args.tx x)) c.in-Some.is c.change_of.ensures.some in
    let known = c.args.known.now in
    if_both_seen (sees kept s0 c.args.server) (RowIs log_spelling areas.Log 0 (b64 c.args.pos) (Some logged)) (λ d. IsKnown known d → HasTable d change table) (λ d. IsKnown known d → IsStepAt c.args.tx d c.args.pos (record { table = table; change = change })) (λ d row has. λ k. record { logged = row ∙ ap (λ (r : LogRecord). Some (log_spelling r)) is; has = has k }) c.in_ok-logged.ensures.row (sees_back kept s0 c.get_needed.new.self c.args.server (λ d. IsKnown known d → HasTable d change table) (record { most = reads_of_one 1 c.args.server areas.Log; stays = c.in_ok-logged.ensures.ok.stays }) c.in_ok-table.ensures.table)

pub returns-clause-can : goal.returns-clause-can
returns-clause-can g c =
    let is : c.in_ok-logged.logged ≡ records.Change c.args.tx c.in-Some.change = subst (λ (o : Option Change). IfSome o (λ x. c.in_ok-logged.logged ≡ records.Change c.args.tx x)) c.in-Some.is c.change_of.ensures.some in
    record { rows = typed_rows c.args.tx c.in-Some.change (subst IsLogRecord is c.in_ok-logged.ensures.fits.fits); stands = c.in_ok-table.ensures.can }
