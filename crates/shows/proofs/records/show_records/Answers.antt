use Rattle.std.proofs.Common.{◌≡◌, ◌<◌, ◌+◌, ℕ, List, length, sym, subst, arith}
use Rattle.site_store.specs.Words.{count_max, after_key, reads_of_one, Damages, stays_none}
use Rattle.stored_defs.specs.Reading.{table_rules}
use Rattle.shows.proofs.Showing.{output_fails, starts, stops, goes_on, stops_in, ends, is_full, counted, stops_counting, read_more, reads_up_to, read_fails}
use Rattle.shows.proofs.Passed.{on_err, passed}
use Rattle.shows.proofs.records.show_records.Goals as goal

pub loop-shown-init : goal.loop-shown-init
loop-shown-init g c = record {
  counts = omega arith;
  stays = stays_none g.K.Keeper.kept c.args.sites.now (reads_of_one 0 c.args.server g.R.Stored.AREA);
  upto = starts g.K.Keeper.kept g.R.Key.Key.fits g.R.Key.Key.spelling g.R.Part.fits g.R.Part.spelling g.R.ShownRecord.line g.R.Stored.AREA (g.R.Table.TableNumber.number c.args.table) c.args.sites.now c.args.sites.now c.args.server (g.O.Sink.taken c.args.output.now) (g.O.Sink.taken c.args.output.now);
}

pub next-requires : goal.next-requires
next-requires g c = subst (λ (l : List (List ℕ)). c.args.server < length l) (sym c.loop-shown.invariant.stays.passes.names) c.requires.server

pub returns-in_err-key-clause-err : goal.returns-in_err-key-clause-err
returns-in_err-key-clause-err g c = on_err c.from_residual.result (stops g.K.Keeper.kept g.R.Key.Key.fits g.R.Key.Key.spelling g.R.Part.fits g.R.Part.spelling g.R.ShownRecord.line g.R.Stored.AREA (g.R.Table.TableNumber.number c.args.table) c.args.sites.now c.loop-shown.sites c.args.server (g.O.Sink.taken c.args.output.now) (g.O.Sink.taken c.loop-shown.output) c.loop-shown.last c.loop-shown.shown c.loop-shown.invariant.upto)

pub returns-in_err-key-clause-fault : goal.returns-in_err-key-clause-fault
returns-in_err-key-clause-fault g c = passed c.from_residual.result _ _ c.from_residual.ensures.1 (read_fails g.K.Keeper.kept c.args.sites.now c.loop-shown.sites c.next.new.self c.args.server g.R.Stored.AREA c.loop-shown.shown g.R.Key.Key.fits g.R.Key.Key.spelling g.R.Part.fits g.R.Part.spelling (g.R.Table.TableNumber.number c.args.table) (after_key g.R.Key.Key.spelling c.loop-shown.last) c.in_err-key.field-0.0 (omega (arith, c.loop-shown-test.true)) c.loop-shown.invariant.stays (rw c.as_ref.ensures.value at c.in_err-key.ensures.fault))

pub returns-in_err-key-clause-counts : goal.returns-in_err-key-clause-counts
returns-in_err-key-clause-counts g c = c.loop-shown.invariant.counts

pub returns-in_err-show_count-clause-err : goal.returns-in_err-show_count-clause-err
returns-in_err-show_count-clause-err g c = on_err c.from_residual-in_err-show_count.result (stops_counting g.K.Keeper.kept g.R.Key.Key.fits g.R.Key.Key.spelling g.R.Part.fits g.R.Part.spelling g.R.ShownRecord.line g.R.Stored.AREA (g.R.Table.TableNumber.number c.args.table) c.args.sites.now c.loop-shown.sites c.args.server (g.O.Sink.taken c.args.output.now) (g.O.Sink.taken c.loop-shown.output) c.loop-shown.shown (g.O.Sink.taken c.show_count.new.output) c.in_err-show_count.ensures.err (ends g.K.Keeper.kept g.R.Key.Key.fits g.R.Key.Key.spelling g.R.Part.fits g.R.Part.spelling g.R.ShownRecord.line g.R.Stored.AREA (g.R.Table.TableNumber.number c.args.table) c.args.sites.now c.loop-shown.sites c.args.server (g.O.Sink.taken c.args.output.now) (g.O.Sink.taken c.loop-shown.output) c.loop-shown.shown c.loop-shown.invariant.stays c.loop-shown.last c.loop-shown.invariant.upto (rw (c.in_default.is, c.as_ref.ensures.value) at c.in_ok-key.ensures.row)))

pub returns-in_err-show_count-clause-fault : goal.returns-in_err-show_count-clause-fault
returns-in_err-show_count-clause-fault g c = passed c.from_residual-in_err-show_count.result _ _ c.from_residual-in_err-show_count.ensures.1 (output_fails g.K.Keeper.kept c.args.sites.now c.next.new.self (reads_of_one count_max c.args.server g.R.Stored.AREA) (Damages (λ s. s ≡ c.args.server) (table_rules g.R.Key.Key.fits g.R.Key.Key.spelling g.R.Part.fits g.R.Part.spelling g.R.Stored.AREA (g.R.Table.TableNumber.number c.args.table)) g.K.Keeper.kept c.args.sites.now) (g.O.Sink.faults c.args.output.now) (g.O.Sink.faults c.loop-shown.output) (g.O.Sink.faults c.show_count.new.output) c.in_err-show_count.field-0.0 c.requires.closed (read_more g.K.Keeper.kept c.args.sites.now c.loop-shown.sites c.next.new.self c.args.server g.R.Stored.AREA c.loop-shown.shown count_max (omega (arith, c.loop-shown-test.true)) c.loop-shown.invariant.stays c.in_ok-key.ensures.ok.stays) c.loop-shown.invariant.counts c.in_err-show_count.ensures.cause)

pub returns-in_err-show_count-clause-counts : goal.returns-in_err-show_count-clause-counts
returns-in_err-show_count-clause-counts g c = omega (arith, c.loop-shown.invariant.counts, c.show_count.ensures.counts)

pub returns-in_default-clause-stays : goal.returns-in_default-clause-stays
returns-in_default-clause-stays g c = read_more g.K.Keeper.kept c.args.sites.now c.loop-shown.sites c.next.new.self c.args.server g.R.Stored.AREA c.loop-shown.shown count_max (omega (arith, c.loop-shown-test.true)) c.loop-shown.invariant.stays c.in_ok-key.ensures.ok.stays

pub returns-in_default-clause-ok : goal.returns-in_default-clause-ok
returns-in_default-clause-ok g c = counted g.K.Keeper.kept g.R.Key.Key.fits g.R.Key.Key.spelling g.R.Part.fits g.R.Part.spelling g.R.ShownRecord.line g.R.Stored.AREA (g.R.Table.TableNumber.number c.args.table) c.args.sites.now c.loop-shown.sites c.args.server (g.O.Sink.taken c.args.output.now) (g.O.Sink.taken c.loop-shown.output) c.loop-shown.shown (g.O.Sink.taken c.show_count.new.output) c.in_ok-show_count.ensures.ok (ends g.K.Keeper.kept g.R.Key.Key.fits g.R.Key.Key.spelling g.R.Part.fits g.R.Part.spelling g.R.ShownRecord.line g.R.Stored.AREA (g.R.Table.TableNumber.number c.args.table) c.args.sites.now c.loop-shown.sites c.args.server (g.O.Sink.taken c.args.output.now) (g.O.Sink.taken c.loop-shown.output) c.loop-shown.shown c.loop-shown.invariant.stays c.loop-shown.last c.loop-shown.invariant.upto (rw (c.in_default.is, c.as_ref.ensures.value) at c.in_ok-key.ensures.row))

pub returns-in_default-clause-counts : goal.returns-in_default-clause-counts
returns-in_default-clause-counts g c = omega (arith, c.loop-shown.invariant.counts, c.show_count.ensures.counts)

pub returns-in_err-show_record-clause-err : goal.returns-in_err-show_record-clause-err
returns-in_err-show_record-clause-err g c =
    let follows = rw (c.in-Some.is, c.as_ref.ensures.value) at c.in_ok-key.ensures.rises in
    on_err c.from_residual-in_err-show_record.result (stops_in g.K.Keeper.kept g.R.Key.Key.fits g.R.Key.Key.spelling g.R.Part.fits g.R.Part.spelling g.R.ShownRecord.line g.R.Stored.AREA (g.R.Table.TableNumber.number c.args.table) c.args.sites.now c.loop-shown.sites c.args.server (g.O.Sink.taken c.args.output.now) (g.O.Sink.taken c.loop-shown.output) c.loop-shown.shown c.loop-shown.invariant.stays c.loop-shown.last c.loop-shown.invariant.upto c.in-Some.key c.in-Some.record g.met.R.Key.Key.one g.met.R.Part.one follows.fits follows.row.fits (rw (c.in-Some.is, c.as_ref.ensures.value) at c.in_ok-key.ensures.row) (g.O.Sink.taken c.show_record.new.output) c.in_err-show_record.ensures.err)

pub returns-in_err-show_record-clause-fault : goal.returns-in_err-show_record-clause-fault
returns-in_err-show_record-clause-fault g c = passed c.from_residual-in_err-show_record.result _ _ c.from_residual-in_err-show_record.ensures.1 (output_fails g.K.Keeper.kept c.args.sites.now c.next.new.self (reads_of_one count_max c.args.server g.R.Stored.AREA) (Damages (λ s. s ≡ c.args.server) (table_rules g.R.Key.Key.fits g.R.Key.Key.spelling g.R.Part.fits g.R.Part.spelling g.R.Stored.AREA (g.R.Table.TableNumber.number c.args.table)) g.K.Keeper.kept c.args.sites.now) (g.O.Sink.faults c.args.output.now) (g.O.Sink.faults c.loop-shown.output) (g.O.Sink.faults c.show_record.new.output) c.in_err-show_record.field-0.0 c.requires.closed (read_more g.K.Keeper.kept c.args.sites.now c.loop-shown.sites c.next.new.self c.args.server g.R.Stored.AREA c.loop-shown.shown count_max (omega (arith, c.loop-shown-test.true)) c.loop-shown.invariant.stays c.in_ok-key.ensures.ok.stays) c.loop-shown.invariant.counts c.in_err-show_record.ensures.cause)

pub returns-in_err-show_record-clause-counts : goal.returns-in_err-show_record-clause-counts
returns-in_err-show_record-clause-counts g c = omega (arith, c.loop-shown.invariant.counts, c.show_record.ensures.counts)

pub loop-shown-preserved : goal.loop-shown-preserved
loop-shown-preserved g c =
    let follows = rw (c.in-Some.is, c.as_ref.ensures.value) at c.in_ok-key.ensures.rises in
    record {
      counts = omega (arith, c.loop-shown.invariant.counts, c.show_record.ensures.counts);
      stays = read_more g.K.Keeper.kept c.args.sites.now c.loop-shown.sites c.next.new.self c.args.server g.R.Stored.AREA c.loop-shown.shown (c.loop-shown.shown + 1) (omega arith) c.loop-shown.invariant.stays c.in_ok-key.ensures.ok.stays;
      upto = goes_on g.K.Keeper.kept g.R.Key.Key.fits g.R.Key.Key.spelling g.R.Part.fits g.R.Part.spelling g.R.ShownRecord.line g.R.Stored.AREA (g.R.Table.TableNumber.number c.args.table) c.args.sites.now c.loop-shown.sites c.args.server (g.O.Sink.taken c.args.output.now) (g.O.Sink.taken c.loop-shown.output) c.loop-shown.shown c.loop-shown.invariant.stays c.loop-shown.last c.loop-shown.invariant.upto c.in-Some.key c.in-Some.record g.met.R.Key.Key.one g.met.R.Part.one follows.fits follows.row.fits (rw (c.in-Some.is, c.as_ref.ensures.value) at c.in_ok-key.ensures.row) (g.O.Sink.taken c.show_record.new.output) c.in_ok-show_record.ensures.ok;
    }

pub returns-in_err-show_count-2-clause-err : goal.returns-in_err-show_count-2-clause-err
returns-in_err-show_count-2-clause-err g c = on_err c.from_residual-in_err-show_count-2.result (stops_counting g.K.Keeper.kept g.R.Key.Key.fits g.R.Key.Key.spelling g.R.Part.fits g.R.Part.spelling g.R.ShownRecord.line g.R.Stored.AREA (g.R.Table.TableNumber.number c.args.table) c.args.sites.now c.loop-shown.sites c.args.server (g.O.Sink.taken c.args.output.now) (g.O.Sink.taken c.loop-shown.output) count_max (g.O.Sink.taken c.show_count-2.new.output) c.in_err-show_count-2.ensures.err (is_full g.K.Keeper.kept g.R.Key.Key.fits g.R.Key.Key.spelling g.R.Part.fits g.R.Part.spelling g.R.ShownRecord.line g.R.Stored.AREA (g.R.Table.TableNumber.number c.args.table) c.args.sites.now c.loop-shown.sites c.args.server (g.O.Sink.taken c.args.output.now) (g.O.Sink.taken c.loop-shown.output) c.loop-shown.shown c.loop-shown.invariant.stays c.loop-shown.last c.loop-shown.invariant.upto (omega (arith, c.loop-shown-test.false, c.loop-shown.auto.shown-end))))

pub returns-in_err-show_count-2-clause-fault : goal.returns-in_err-show_count-2-clause-fault
returns-in_err-show_count-2-clause-fault g c = passed c.from_residual-in_err-show_count-2.result _ _ c.from_residual-in_err-show_count-2.ensures.1 (output_fails g.K.Keeper.kept c.args.sites.now c.loop-shown.sites (reads_of_one count_max c.args.server g.R.Stored.AREA) (Damages (λ s. s ≡ c.args.server) (table_rules g.R.Key.Key.fits g.R.Key.Key.spelling g.R.Part.fits g.R.Part.spelling g.R.Stored.AREA (g.R.Table.TableNumber.number c.args.table)) g.K.Keeper.kept c.args.sites.now) (g.O.Sink.faults c.args.output.now) (g.O.Sink.faults c.loop-shown.output) (g.O.Sink.faults c.show_count-2.new.output) c.in_err-show_count-2.field-0.0 c.requires.closed (reads_up_to g.K.Keeper.kept c.args.sites.now c.loop-shown.sites c.loop-shown.sites c.args.server g.R.Stored.AREA c.loop-shown.shown count_max (omega (arith, c.loop-shown.auto.shown-end)) c.loop-shown.invariant.stays) c.loop-shown.invariant.counts c.in_err-show_count-2.ensures.cause)

pub returns-in_err-show_count-2-clause-counts : goal.returns-in_err-show_count-2-clause-counts
returns-in_err-show_count-2-clause-counts g c = omega (arith, c.loop-shown.invariant.counts, c.show_count-2.ensures.counts)

pub returns-clause-stays : goal.returns-clause-stays
returns-clause-stays g c = reads_up_to g.K.Keeper.kept c.args.sites.now c.loop-shown.sites c.loop-shown.sites c.args.server g.R.Stored.AREA c.loop-shown.shown count_max (omega (arith, c.loop-shown.auto.shown-end)) c.loop-shown.invariant.stays

pub returns-clause-ok : goal.returns-clause-ok
returns-clause-ok g c = counted g.K.Keeper.kept g.R.Key.Key.fits g.R.Key.Key.spelling g.R.Part.fits g.R.Part.spelling g.R.ShownRecord.line g.R.Stored.AREA (g.R.Table.TableNumber.number c.args.table) c.args.sites.now c.loop-shown.sites c.args.server (g.O.Sink.taken c.args.output.now) (g.O.Sink.taken c.loop-shown.output) count_max (g.O.Sink.taken c.show_count-2.new.output) c.in_ok-show_count-2.ensures.ok (is_full g.K.Keeper.kept g.R.Key.Key.fits g.R.Key.Key.spelling g.R.Part.fits g.R.Part.spelling g.R.ShownRecord.line g.R.Stored.AREA (g.R.Table.TableNumber.number c.args.table) c.args.sites.now c.loop-shown.sites c.args.server (g.O.Sink.taken c.args.output.now) (g.O.Sink.taken c.loop-shown.output) c.loop-shown.shown c.loop-shown.invariant.stays c.loop-shown.last c.loop-shown.invariant.upto (omega (arith, c.loop-shown-test.false, c.loop-shown.auto.shown-end)))

pub returns-clause-counts : goal.returns-clause-counts
returns-clause-counts g c = omega (arith, c.loop-shown.invariant.counts, c.show_count-2.ensures.counts)
