use Rattle.std.proofs.Common.{◌+◌, ◌<◌, ℕ, List, [], None, length, take, sym, subst, arith}
use Rattle.std.specs.List.{AllByRecursion}
use Rattle.std.proofs.lemmas.Result.{err_from_is_err_and}
use Rattle.site_store.specs.Words.{ShownBefore, write_breaks, breaks_on, goes_as, goes_then, goes_open}
use Rattle.stored_defs.specs.laws.Standing.{all_at_place}
use Rattle.stored_commits.specs.units.StoredChanges.{with_uow_row}
use Rattle.cd_tables.specs.Appending.{Becomes, CapturesUnit, IsTyped}
use Rattle.cd_tables.specs.Known.{AppendsKnowing}
use Rattle.cd_tables.specs.Rules.{rules}
use Rattle.cd_tables.proofs.Parts.{CapturesKnowing, part_begins, part_next, part_ends}
use Rattle.cd_tables.proofs.units.append_changes.Goals as goal

pub returns-in_err-put_unit-clause-fault : goal.returns-in_err-put_unit-clause-fault
returns-in_err-put_unit-clause-fault g c =
    let p = err_from_is_err_and c.from_residual.result c.from_residual.ensures.1 in
    rw (p.1, p.2) (write_breaks rules g.K.Keeper.kept c.args.sites.now c.put_unit.new.sites c.args.server c.in_err-put_unit.field-0.0 c.in_err-put_unit.ensures.fault)

pub changes-init : goal.changes-init
changes-init g c =
    let unit = c.args.unit.now in
    record {
      reads = c.in_ok-put_unit.ensures.reads;
      few = omega arith;
      fits = tt;
      goes = goes_as g.K.Keeper.kept c.args.sites.now c.put_unit.new.sites c.args.server (Becomes (with_uow_row unit.head)) (CapturesKnowing unit [] 0 None) c.requires.open c.in_ok-put_unit.ensures.ok (λ d e now. (part_begins unit d e now, tt));
    }

pub append_change-requires-clause-server : goal.append_change-requires-clause-server
append_change-requires-clause-server g c = subst (λ (l : List (List ℕ)). c.args.server < length l) (sym c.changes.invariant.goes.works.passes.names) c.requires.server

pub append_change-requires-clause-open : goal.append_change-requires-clause-open
append_change-requires-clause-open g c = goes_open g.K.Keeper.kept c.args.sites.now c.changes.sites c.args.server (CapturesKnowing c.args.unit.now (take c.changes.placed-index c.as_slice-placed-items.result.now) c.changes.rows c.changes.known) c.requires.open c.changes.invariant.goes

pub append_change-requires-clause-typed : goal.append_change-requires-clause-typed
append_change-requires-clause-typed g c =
    let changes = c.as_slice-placed-items.result.now in
    let placed = c.placed-item.result in
    subst IsTyped (sym c.placed-item.is) (all_at_place IsTyped changes c.changes.placed-index placed (subst (AllByRecursion IsTyped) (sym c.as_slice-placed-items.ensures) c.requires.typed) c.changes-test.true)

pub returns-in_err-made-clause-fault : goal.returns-in_err-made-clause-fault
returns-in_err-made-clause-fault g c =
    let p = err_from_is_err_and c.from_residual-in_err-made.result c.from_residual-in_err-made.ensures.1 in
    rw (p.1, p.2) (breaks_on rules g.K.Keeper.kept c.args.sites.now c.changes.sites c.append_change.new.sites c.args.server (CapturesKnowing c.args.unit.now (take c.changes.placed-index c.as_slice-placed-items.result.now) c.changes.rows c.changes.known) c.in_err-made.field-0.0 c.requires.open (λ d e part. part.0.shown) c.changes.invariant.goes c.in_err-made.ensures.fault)

pub overflow_add-rows : goal.overflow_add-rows
overflow_add-rows g c = omega (arith, c.as_slice-placed-items.type_inv, c.changes.invariant.few, c.in_ok-made.ensures.few, c.changes-test.true)

pub changes-preserved : goal.changes-preserved
changes-preserved g c =
    let unit = c.args.unit.now in
    let changes = c.as_slice-placed-items.result.now in
    let i = c.changes.placed-index in
    let rows = c.changes.rows in
    let placed = c.placed-item.result in
    let known = c.changes.known in
    let made = c.in_ok-made.made in
    let more = made.rows in
    record {
      reads = λ s. omega (arith, c.changes.invariant.reads s, c.in_ok-made.ensures.reads s);
      few = omega (arith, c.changes.invariant.few, c.in_ok-made.ensures.few);
      fits = c.in_ok-made.ensures.fits;
      goes = goes_then g.K.Keeper.kept c.args.sites.now c.changes.sites c.append_change.new.sites c.args.server (CapturesKnowing unit (take i changes) rows known) (AppendsKnowing known made.known unit.head.seq placed more) (CapturesKnowing unit (take (i + 1) changes) (rows + more) made.known) c.requires.open c.changes.invariant.goes c.in_ok-made.ensures.ok (λ d e f before now. let captured = now before.1 in (part_next unit changes c.as_slice-placed-items.ensures i rows placed more d e f c.changes-test.true c.placed-item.is before.0 captured.0, captured.1));
    }

pub returns-clause-ok : goal.returns-clause-ok
returns-clause-ok g c =
    let unit = c.args.unit.now in
    let changes = c.as_slice-placed-items.result.now in
    let i = c.changes.placed-index in
    let rows = c.changes.rows in
    goes_as g.K.Keeper.kept c.args.sites.now c.changes.sites c.args.server (CapturesKnowing unit (take i changes) rows c.changes.known) (CapturesUnit unit rows) c.requires.open c.changes.invariant.goes (λ d e part. part_ends unit changes c.as_slice-placed-items.ensures i rows d e c.changes-test.false part.0)

pub returns-clause-shown : goal.returns-clause-shown
returns-clause-shown g c = goes_as g.K.Keeper.kept c.args.sites.now c.changes.sites c.args.server (CapturesKnowing c.args.unit.now (take c.changes.placed-index c.as_slice-placed-items.result.now) c.changes.rows c.changes.known) (ShownBefore rules) c.requires.open c.changes.invariant.goes (λ d e part. part.0.shown)
