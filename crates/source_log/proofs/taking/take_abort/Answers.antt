use Rattle.std.proofs.Common.{◌≡◌, ◌+◌, ◌<◌, ℕ, List, Some, sym, ap, subst, ◌∙◌, ltb-true}
use Rattle.std.proofs.lemmas.Result.{err_from_is_err_and}
use Rattle.world_store.specs.Words.{IsLogRecord, log_spelling, b64, log_storable}
use Rattle.site_store.specs.Words.{put_at, GoesOn, write_breaks_after, goes_none, saw_then}
use Rattle.repl_model.specs.Words.{LogRecord, log_limit}
use Rattle.repl_types.specs.declared.area.Area.TheVariants as areas
use Rattle.repl_types.specs.declared.record.LogRecord.TheVariants as records
use Rattle.source_log.specs.Reading.{ArePositions, with_dropped}
use Rattle.source_log.specs.Rules.{rules}
use Rattle.source_log.specs.Storing.{TakesRecord}
use Rattle.source_log.specs.declared.outcome.Outcome.TheVariants as outcomes
use Rattle.source_log.proofs.EndsTaken.{abort_full, abort_taken}
use Rattle.row_codec.specs.LogRecords.{HasShortRows}
use Rattle.source_log.proofs.taking.take_abort.Goals as goal

pub returns-then-not-has_room-clause-ok : goal.returns-then-not-has_room-clause-ok
returns-then-not-has_room-clause-ok g c =
    let head = c.args.head.now in
    subst (λ (r : LogRecord). GoesOn g.K.Keeper.kept c.args.sites.now c.args.sites.now c.args.server (TakesRecord head r outcomes.Full)) (sym c.requires.is)
    (goes_none g.K.Keeper.kept c.args.sites.now c.args.server (TakesRecord head (records.Abort c.args.tx) outcomes.Full) c.requires.open (λ d. abort_full head c.args.tx d (sym c.has_room.ensures ∙ c.if-not-has_room.true)))

pub returns-in_err-put_end-clause-fault : goal.returns-in_err-put_end-clause-fault
returns-in_err-put_end-clause-fault g c =
    let p = err_from_is_err_and c.from_residual-in_err-put_end.result c.from_residual-in_err-put_end.ensures.1 in
    rw (p.1, p.2) (write_breaks_after rules g.K.Keeper.kept c.args.sites.now c.positions_of.new.sites c.put_end.new.sites c.args.server c.in_err-put_end.field-0.0 c.in_ok-positions.ensures.ok c.in_err-put_end.ensures.fault)

pub returns-clause-ok : goal.returns-clause-ok
returns-clause-ok g c =
    let kept = g.K.Keeper.kept in
    let s0 = c.args.sites.now in
    let head = c.args.head.now in
    let tx = c.args.tx in
    let positions = c.in_ok-positions.positions in
    let r = records.Abort tx in
    let typed : IsLogRecord r = subst IsLogRecord c.requires.is c.requires.typed in
    let room : head.last < log_limit = ltb-true head.last log_limit (sym c.has_room.ensures ∙ c.if-not-has_room.false) in
    subst (λ (r : LogRecord). GoesOn kept s0 c.put_end.new.sites c.args.server (TakesRecord head r outcomes.Taken)) (sym c.requires.is)
    (saw_then kept s0 c.positions_of.new.sites c.put_end.new.sites c.args.server (ArePositions tx positions) (λ d e. e ≡ with_dropped tx c.as_slice.result.now (put_at d areas.Log 0 (b64 (head.last + 1)) (Some (log_spelling c.args.logged.now))))
    (TakesRecord head r outcomes.Taken) c.requires.open c.in_ok-positions.ensures.ok c.in_ok-positions.ensures.positions c.in_ok-put_end.ensures.ok
    (λ d e found puts. abort_taken head tx d positions e typed found room
    (puts ∙ ap (λ (ps : List ℕ). with_dropped tx ps (put_at d areas.Log 0 (b64 (head.last + 1)) (Some (log_spelling c.args.logged.now)))) c.as_slice.ensures ∙ ap (λ (x : LogRecord). with_dropped tx positions (put_at d areas.Log 0 (b64 (head.last + 1)) (Some (log_spelling x)))) c.requires.is)))

pub put_end-requires-clause-storable : goal.put_end-requires-clause-storable
put_end-requires-clause-storable g c = log_storable c.args.logged.now c.requires.typed (subst HasShortRows (sym c.requires.is) tt)
