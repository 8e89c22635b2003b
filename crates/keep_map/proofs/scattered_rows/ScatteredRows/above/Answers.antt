use Rattle.std.proofs.Common.{sym, ap, subst}
use Rattle.std.specs.Prelude.{Option, is_some, IfNone}
use Rattle.keep_core.specs.Contents.{IsLastKey}
use Rattle.keep_map.specs.declared.slot.Slot.{Slot}
use Rattle.keep_map.specs.declared.stored_row.StoredRow.{StoredRow}
use Rattle.keep_map.specs.Scattered.{place_of, table_seen}
use Rattle.keep_map.proofs.Above.{no_key_above, found_is_above, found_is_next, found_in_other, valueless_in_other}
use Rattle.keep_map.proofs.scattered_rows.ScatteredRows.above.Goals as goal
use Rattle.keep_map.proofs.scattered_rows.ScatteredRows.above.Goals.{in_default-via-in-Some+then-slot-area+else-slot-table, in_default-via-in-Some+else-slot-area, in_default-via-in_default}

pub returns-in_err-slot-clause-none : goal.returns-in_err-slot-clause-none
returns-in_err-slot-clause-none c =
    let s = c.args.after in
    let m = c.args.self.now.map in
    subst (λ o. IfNone o (IsLastKey (table_seen m s.area s.table) s.key.items)) (sym c.from_residual.ensures) (no_key_above m s c.first.ensures.ordered (sym c.in_err-slot.ensures.entry))

pub returns-in-Some-clause-next : goal.returns-in-Some-clause-next
returns-in-Some-clause-next c =
    found_is_next c.args.self.now.map c.args.after c.first.ensures.ordered (c.in_ok-slot.slot.now, c.in_ok-slot.row.now) (sym c.in_ok-slot.ensures.entry) c.if-slot-area.true c.if-slot-table.true c.in-Some.value c.in-Some.is

pub returns-in-Some-clause-key : goal.returns-in-Some-clause-key
returns-in-Some-clause-key c =
    let there = found_is_above c.args.self.now.map c.args.after c.first.ensures.ordered (c.in_ok-slot.slot.now, c.in_ok-slot.row.now) (sym c.in_ok-slot.ensures.entry) in
    c.args.self.now.sound.keys (place_of c.in_ok-slot.slot.now) (ap (λ (r : Option StoredRow). is_some r) there.1)

pub returns-in_default-clause-none : goal.returns-in_default-clause-none
returns-in_default-clause-none c =
    let s = c.args.after in
    let m = c.args.self.now.map in
    let e : Slot × StoredRow = (c.in_ok-slot.slot.now, c.in_ok-slot.row.now) in
    let found = sym c.in_ok-slot.ensures.entry in
    found_in_other m s c.first.ensures.ordered e found (λ area table. elim c.in_default.branch [
      | in_default-via-in-Some+then-slot-area+else-slot-table w ↦ w.if-slot-table.false table
      | in_default-via-in-Some+else-slot-area w ↦ w.if-slot-area.false area
      | in_default-via-in_default w ↦ valueless_in_other m s c.first.ensures.ordered e found w.in_default.is area table
    ])
