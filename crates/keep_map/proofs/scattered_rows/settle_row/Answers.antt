use Rattle.std.proofs.Common.{Some, None, cond, sym, ap, subst, ◌∙◌}
use Rattle.std.specs.Prelude.{Option, is_some}
use Rattle.std.specs.Option.{unwrap_or}
use Rattle.std.specs.BTreeMap.{BTreeMap}
use Rattle.keep_map.specs.declared.slot.Slot.{Slot}
use Rattle.keep_map.specs.declared.stored_row.StoredRow.{StoredRow}
use Rattle.keep_map.specs.Scattered.{place_of, settled, SetsRow}
use Rattle.keep_map.proofs.Places.{row_is_set, written_through, sets_unchanged, sets_again}
use Rattle.keep_map.proofs.Sound.{row_holding_none, row_holding_some}
use Rattle.keep_map.proofs.scattered_rows.settle_row.Goals as goal

pub returns-in_default : goal.returns-in_default
returns-in_default c =
    sets_unchanged c.args.map.now c.get_mut.follows.lender-at-none (place_of c.args.slot.now) _ (ap (settled c.args.keep) (sym c.in_default.ensures.value) ∙ c.in_default.ensures.value) (ap (λ (m : BTreeMap Slot StoredRow). m.entries) c.get_mut.follows.holds-at-none)

pub returns-then-is_gone : goal.returns-then-is_gone
returns-then-is_gone c =
    let m = c.args.map.now in
    let s = c.args.slot.now in
    let old = c.in-Some.row.now in
    let new = c.settle.new.self in
    let mid = c.get_mut.follows.lender new in
    let gone = row_holding_none (cond c.args.keep old.now (unwrap_or old.before old.now)) (ap (λ (r : StoredRow). is_some r.now) (sym c.settle.ensures) ∙ c.if-is_gone.ensures) in
    subst (λ (w : Option StoredRow). SetsRow (place_of s) w m c.remove.new.self) (sym gone ∙ ap (settled c.args.keep) c.in-Some.ensures.value)
    (sets_again m mid c.remove.new.self (place_of s) (Some new) None (written_through m mid s old new c.in-Some.ensures.value (c.get_mut.follows.holds new).3) (row_is_set mid c.remove.new.self s None c.remove.ensures.updates))

pub returns-else-is_gone : goal.returns-else-is_gone
returns-else-is_gone c =
    let m = c.args.map.now in
    let s = c.args.slot.now in
    let old = c.in-Some.row.now in
    let new = c.settle.new.self in
    let mid = c.get_mut.follows.lender new in
    let left = row_holding_some (cond c.args.keep old.now (unwrap_or old.before old.now)) (ap (λ (r : StoredRow). is_some r.now) (sym c.settle.ensures) ∙ c.if-is_gone.ensures) in
    subst (λ (w : Option StoredRow). SetsRow (place_of s) w m mid) (ap (λ (r : StoredRow). Some r) c.settle.ensures ∙ sym left ∙ ap (settled c.args.keep) c.in-Some.ensures.value)
    (written_through m mid s old new c.in-Some.ensures.value (c.get_mut.follows.holds new).3)
