use Rattle.std.proofs.Common.{◌≡◌, ◌<◌, ◌+◌, ℕ, List, ◌∷◌, [], ◌++◌, length, length-append, sym, ap, subst, arith, Option, Some, None, IfSome}
use Rattle.std.proofs.lemmas.Result.{err_from_is_err_and}
use Rattle.world_store.specs.Words.{definition_limit}
use Rattle.site_store.specs.Words.{Contents, IsNextKey, IsLastKey, sees, after_key, reads_of_one, Damages, stays_then, reads_more, reads_within, any_seen, if_seen, if_both_seen, stays_none, stays_sees, stays_within}
use Rattle.repl_model.specs.Words.{all_append}
use Rattle.stored_defs.specs.Reading.{HasRecords, AllStand, table_rules}
use Rattle.site_store.specs.laws.Passing.{no_memory}
use Rattle.stored_defs.proofs.ReadingRows.{HasReadTo, reads_start, reads_on, reads_last, reads_full, reads_fail, stands_on_key}
use Rattle.stored_defs.proofs.reading.read_records.Goals as goal

pub loop-read-init : goal.loop-read-init
loop-read-init g c = record {
  count = ap length c.new-records.ensures;
  stays = stays_none g.K.Keeper.kept c.args.sites.now (reads_of_one 0 c.args.server g.R.Stored.AREA);
  stand = rw c.new-records.ensures (if_seen (sees g.K.Keeper.kept c.args.sites.now c.args.server) (λ _. Unit {0}) (AllStand g.R.Part.spelling g.R.Stored.AREA (g.R.Table.TableNumber.number c.args.table) []) (λ d _. tt) (any_seen (sees g.K.Keeper.kept c.args.sites.now c.args.server)));
  fit = rw c.new-records.ensures tt;
  read = rw c.new-records.ensures (if_seen (sees g.K.Keeper.kept c.args.sites.now c.args.server) (λ _. Unit {0}) (HasReadTo g.R.Key.Key.fits g.R.Key.Key.spelling g.R.Part.fits g.R.Part.spelling g.R.Stored.AREA (g.R.Table.TableNumber.number c.args.table) None []) (λ d _. reads_start g.R.Key.Key.fits g.R.Key.Key.spelling g.R.Part.fits g.R.Part.spelling g.R.Stored.AREA (g.R.Table.TableNumber.number c.args.table) d) (any_seen (sees g.K.Keeper.kept c.args.sites.now c.args.server)));
}

pub next-requires : goal.next-requires
next-requires g c = subst (λ (l : List (List ℕ)). c.args.server < length l) (sym c.loop-read.invariant.stays.passes.names) c.requires.server

pub returns-in_err-row-clause-fault : goal.returns-in_err-row-clause-fault
returns-in_err-row-clause-fault g c =
    let p = err_from_is_err_and c.from_residual.result c.from_residual.ensures.1 in
    rw (p.1, p.2) (reads_fail g.R.Key.Key.fits g.R.Key.Key.spelling g.R.Part.fits g.R.Part.spelling g.R.Stored.AREA (g.R.Table.TableNumber.number c.args.table) g.K.Keeper.kept c.args.sites.now c.loop-read.sites c.next.new.self c.args.server c.loop-read._read (after_key g.R.Key.Key.spelling c.loop-read.last) c.in_err-row.field-0.0 c.loop-read-test.true c.loop-read.invariant.stays (rw c.as_ref.ensures.value at c.in_err-row.ensures.fault))

pub returns-in_default-clause-ok : goal.returns-in_default-clause-ok
returns-in_default-clause-ok g c = stays_then g.K.Keeper.kept c.args.sites.now c.loop-read.sites c.next.new.self (reads_of_one c.loop-read._read c.args.server g.R.Stored.AREA) (reads_of_one 1 c.args.server g.R.Stored.AREA) (reads_of_one definition_limit c.args.server g.R.Stored.AREA) c.loop-read.invariant.stays c.in_ok-row.ensures.ok.stays (reads_more c.loop-read._read 1 definition_limit c.args.server g.R.Stored.AREA (omega (arith, c.loop-read-test.true)))

pub returns-in_default-clause-records : goal.returns-in_default-clause-records
returns-in_default-clause-records g c =
    let kept = g.K.Keeper.kept in
    let t = g.R.Table.TableNumber.number c.args.table in
    let saw = stays_sees kept c.args.sites.now c.loop-read.sites (reads_of_one c.loop-read._read c.args.server g.R.Stored.AREA) c.loop-read.invariant.stays c.args.server in
    if_both_seen (sees kept c.args.sites.now c.args.server) (λ d. IsLastKey (d g.R.Stored.AREA t) (after_key g.R.Key.Key.spelling c.loop-read.last)) (HasReadTo g.R.Key.Key.fits g.R.Key.Key.spelling g.R.Part.fits g.R.Part.spelling g.R.Stored.AREA t c.loop-read.last c.loop-read.records) (HasRecords g.R.Key.Key.fits g.R.Key.Key.spelling g.R.Part.fits g.R.Part.spelling g.R.Stored.AREA t c.loop-read.records)
    (λ d none read. reads_last g.R.Key.Key.fits g.R.Key.Key.spelling g.R.Part.fits g.R.Part.spelling g.R.Stored.AREA t d c.loop-read.last c.loop-read.records none read)
    (subst (λ (o : Option Contents). IfSome o (λ d. IsLastKey (d g.R.Stored.AREA t) (after_key g.R.Key.Key.spelling c.loop-read.last))) saw (rw (c.in_default.is, c.as_ref.ensures.value) at c.in_ok-row.ensures.row))
    c.loop-read.invariant.read

pub returns-in_default-clause-few : goal.returns-in_default-clause-few
returns-in_default-clause-few g c = omega (arith, c.loop-read.invariant.count)

pub returns-in_err-push-clause-fault : goal.returns-in_err-push-clause-fault
returns-in_err-push-clause-fault g c =
    let kept = g.K.Keeper.kept in
    let stays = stays_then kept c.args.sites.now c.loop-read.sites c.next.new.self (reads_of_one c.loop-read._read c.args.server g.R.Stored.AREA) (reads_of_one 1 c.args.server g.R.Stored.AREA) (reads_of_one definition_limit c.args.server g.R.Stored.AREA) c.loop-read.invariant.stays c.in_ok-row.ensures.ok.stays (reads_more c.loop-read._read 1 definition_limit c.args.server g.R.Stored.AREA (omega (arith, c.loop-read-test.true))) in
    let p = err_from_is_err_and c.from_residual-in_err-push.result c.from_residual-in_err-push.ensures.1 in
    rw (p.1, p.2) (no_memory kept c.args.sites.now c.next.new.self (reads_of_one definition_limit c.args.server g.R.Stored.AREA) (Damages (λ s. s ≡ c.args.server) (table_rules g.R.Key.Key.fits g.R.Key.Key.spelling g.R.Part.fits g.R.Part.spelling g.R.Stored.AREA (g.R.Table.TableNumber.number c.args.table)) kept c.args.sites.now) c.requires.closed stays)

pub loop-read-preserved : goal.loop-read-preserved
loop-read-preserved g c = record {
  count = omega (arith, ap length c.in_ok-push.ensures.items, length-append c.loop-read.records (c.in-Some.record ∷ []), c.loop-read.invariant.count);
  stays = stays_then g.K.Keeper.kept c.args.sites.now c.loop-read.sites c.next.new.self (reads_of_one c.loop-read._read c.args.server g.R.Stored.AREA) (reads_of_one 1 c.args.server g.R.Stored.AREA) (reads_of_one (c.loop-read._read + 1) c.args.server g.R.Stored.AREA) c.loop-read.invariant.stays c.in_ok-row.ensures.ok.stays (reads_more c.loop-read._read 1 (c.loop-read._read + 1) c.args.server g.R.Stored.AREA (omega arith));
  stand =
      let kept = g.K.Keeper.kept in
      let t = g.R.Table.TableNumber.number c.args.table in
      let saw = stays_sees kept c.args.sites.now c.loop-read.sites (reads_of_one c.loop-read._read c.args.server g.R.Stored.AREA) c.loop-read.invariant.stays c.args.server in
      rw c.in_ok-push.ensures.items (if_both_seen (sees kept c.args.sites.now c.args.server) (λ d. IsNextKey (d g.R.Stored.AREA t) (after_key g.R.Key.Key.spelling c.loop-read.last) (g.R.Key.Key.spelling c.in-Some.key) (g.R.Part.spelling c.in-Some.record)) (AllStand g.R.Part.spelling g.R.Stored.AREA t c.loop-read.records) (AllStand g.R.Part.spelling g.R.Stored.AREA t (c.loop-read.records ++ c.in-Some.record ∷ []))
      (λ d next stand. stands_on_key g.R.Part.spelling g.R.Stored.AREA t d c.loop-read.records (after_key g.R.Key.Key.spelling c.loop-read.last) (g.R.Key.Key.spelling c.in-Some.key) c.in-Some.record next stand)
      (subst (λ (o : Option Contents). IfSome o (λ d. IsNextKey (d g.R.Stored.AREA t) (after_key g.R.Key.Key.spelling c.loop-read.last) (g.R.Key.Key.spelling c.in-Some.key) (g.R.Part.spelling c.in-Some.record))) saw (rw (c.in-Some.is, c.as_ref.ensures.value) at c.in_ok-row.ensures.row))
      c.loop-read.invariant.stand);
  fit =
      let follows = rw (c.in-Some.is, c.as_ref.ensures.value) at c.in_ok-row.ensures.rises in
      rw c.in_ok-push.ensures.items (all_append g.R.Part.fits c.loop-read.records (c.in-Some.record ∷ []) c.loop-read.invariant.fit (follows.row.fits, tt));
  read =
      let kept = g.K.Keeper.kept in
      let t = g.R.Table.TableNumber.number c.args.table in
      let saw = stays_sees kept c.args.sites.now c.loop-read.sites (reads_of_one c.loop-read._read c.args.server g.R.Stored.AREA) c.loop-read.invariant.stays c.args.server in
      let follows = rw (c.in-Some.is, c.as_ref.ensures.value) at c.in_ok-row.ensures.rises in
      rw c.in_ok-push.ensures.items (if_both_seen (sees kept c.args.sites.now c.args.server) (λ d. IsNextKey (d g.R.Stored.AREA t) (after_key g.R.Key.Key.spelling c.loop-read.last) (g.R.Key.Key.spelling c.in-Some.key) (g.R.Part.spelling c.in-Some.record)) (HasReadTo g.R.Key.Key.fits g.R.Key.Key.spelling g.R.Part.fits g.R.Part.spelling g.R.Stored.AREA t c.loop-read.last c.loop-read.records) (HasReadTo g.R.Key.Key.fits g.R.Key.Key.spelling g.R.Part.fits g.R.Part.spelling g.R.Stored.AREA t (Some c.in-Some.key) (c.loop-read.records ++ c.in-Some.record ∷ []))
      (λ d next read. reads_on g.R.Key.Key.fits g.R.Key.Key.spelling g.R.Part.fits g.R.Part.spelling g.R.Stored.AREA t g.met.R.Key.Key.one g.met.R.Part.one d c.loop-read.last c.loop-read.records c.in-Some.key c.in-Some.record follows.fits follows.row.fits next read)
      (subst (λ (o : Option Contents). IfSome o (λ d. IsNextKey (d g.R.Stored.AREA t) (after_key g.R.Key.Key.spelling c.loop-read.last) (g.R.Key.Key.spelling c.in-Some.key) (g.R.Part.spelling c.in-Some.record))) saw (rw (c.in-Some.is, c.as_ref.ensures.value) at c.in_ok-row.ensures.row))
      c.loop-read.invariant.read);
}

pub returns-clause-ok : goal.returns-clause-ok
returns-clause-ok g c = stays_within g.K.Keeper.kept c.args.sites.now c.loop-read.sites (reads_of_one c.loop-read._read c.args.server g.R.Stored.AREA) (reads_of_one definition_limit c.args.server g.R.Stored.AREA) c.loop-read.invariant.stays (reads_within c.loop-read._read definition_limit c.args.server g.R.Stored.AREA c.loop-read.auto._read-end)

pub returns-clause-records : goal.returns-clause-records
returns-clause-records g c =
    let t = g.R.Table.TableNumber.number c.args.table in
    if_seen (sees g.K.Keeper.kept c.args.sites.now c.args.server) (HasReadTo g.R.Key.Key.fits g.R.Key.Key.spelling g.R.Part.fits g.R.Part.spelling g.R.Stored.AREA t c.loop-read.last c.loop-read.records) (HasRecords g.R.Key.Key.fits g.R.Key.Key.spelling g.R.Part.fits g.R.Part.spelling g.R.Stored.AREA t c.loop-read.records)
    (λ d read. reads_full g.R.Key.Key.fits g.R.Key.Key.spelling g.R.Part.fits g.R.Part.spelling g.R.Stored.AREA t d c.loop-read.last c.loop-read.records (omega (arith, c.loop-read.invariant.count, c.loop-read-test.false, c.loop-read.auto._read-end)) read)
    c.loop-read.invariant.read

pub returns-clause-few : goal.returns-clause-few
returns-clause-few g c = omega (arith, c.loop-read.invariant.count)
