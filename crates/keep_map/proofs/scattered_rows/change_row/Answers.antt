use Rattle.std.proofs.Common.{◌≡◌, Some, None, refl, sym, ap, subst, ◌∙◌}
use Rattle.std.specs.Prelude.{Option}
use Rattle.std.specs.Option.{unwrap_or}
use Rattle.std.specs.BTreeMap.{BTreeMap}
use Rattle.std.specs.BTreeMap.Entry.{map_with_value}
use Rattle.keep_map.specs.declared.slot.Slot.{Slot}
use Rattle.keep_map.specs.declared.stored_row.StoredRow.{StoredRow}
use Rattle.keep_map.specs.declared.stored_row.StoredValue.{StoredValue}
use Rattle.keep_map.specs.Scattered.{place_of, row_at, changed_row, SetsRow}
use Rattle.keep_map.proofs.Places.{row_is_set}
use Rattle.keep_map.proofs.scattered_rows.change_row.Goals as goal

-- changing a row that was inserted with no value is changing no row
from_none : (r : Option StoredRow) (value : Option StoredValue) → changed_row (Some (unwrap_or r (record { now = None; before = None }))) value ≡ changed_row r value
from_none None value = refl
from_none (Some row) value = refl

pub returns-clause-ok : goal.returns-clause-ok
returns-clause-ok c =
    let m = c.args.map.now in
    let s = c.args.slot in
    let value = c.args.value in
    let new = c.change.new.self in
    let n = map_with_value c.in_ok-map.field-0 new in
    let is : new ≡ changed_row (row_at m (place_of s)) value = c.change.ensures ∙ ap (λ (row : StoredRow). changed_row (Some row) value) (c.or_insert-row.ensures.value ∙ ap (λ (r : Option StoredRow). unwrap_or r (record { now = None; before = None })) c.in_ok-map.ensures.value) ∙ from_none (row_at m (place_of s)) value in
    let sets : SetsRow (place_of s) (Some (changed_row (row_at m (place_of s)) value)) m n = subst (λ (row : StoredRow). SetsRow (place_of s) (Some row) m n) is (row_is_set m n s (Some new) (c.in_ok-map.ensures.update.0 new)) in
    subst (λ (last : BTreeMap Slot StoredRow). SetsRow (place_of s) (Some (changed_row (row_at m (place_of s)) value)) m last) (sym (c.map-3-1.given.1 (sym c.in_ok-map.ensures.same_map))) sets
