-- The rows of a keeper in memory whose keys came out of order.
use Rattle.std.specs.Prelude.{◌≡◌, ℕ, Bool, true, false, cond, List, Option, Some, None, is_some, not, ◌&&◌, ◌||◌, ◌==◌}
use Rattle.std.specs.Option.{option_map, unwrap_or}
use Rattle.std.specs.List.{list_any}
use Rattle.std.specs.declared.cmp.Ordering.{Ordering}
use Rattle.std.specs.BTreeMap.{BTreeMap, get_by}
use Rattle.std.specs.BTreeMap.Range.{entries_between}
use Rattle.std.specs.declared.ops.Bound.TheVariants.{Excluded, Unbounded}
use Rattle.keep_core.specs.Contents.{Table}
use Rattle.repl_types.specs.Sizes.{IsKeySize}
use Rattle.keep_map.specs.Places.{Place, Values, place_cmp, same_place}
use Rattle.keep_map.specs.declared.slot.Slot.{Slot}
use Rattle.keep_map.specs.declared.stored_row.StoredValue.{StoredValue}
use Rattle.keep_map.specs.declared.stored_row.StoredRow.{StoredRow}

-- the place that a slot names
abbrev pub place_of : Slot → Place
place_of s = (s.area, s.table, s.key.items)

-- the order of slots is that of their places
abbrev pub slot_cmp : Slot → Slot → Ordering
slot_cmp r s = place_cmp (place_of r) (place_of s)

-- the row at a place, if there is one
abbrev pub row_at : BTreeMap Slot StoredRow → Place → Option StoredRow
row_at m p = get_by (λ s. place_cmp p (place_of s)) m

-- the bytes of a value, if there is one
abbrev pub bytes_of : Option StoredValue → Option (List ℕ)
bytes_of = option_map (λ v. v.bytes.items)

-- the value that the open transaction sees in a row
abbrev pub seen_in : Option StoredRow → Option (List ℕ)
seen_in None = None
seen_in (Some row) = bytes_of row.now

-- the value held in a row: the one from before the open transaction changed it
abbrev pub held_in : Option StoredRow → Option (List ℕ)
held_in None = None
held_in (Some row) = bytes_of (unwrap_or row.before row.now)

-- the value held in a row after the transaction, if it is kept or else if it is not
abbrev pub kept_in : Bool → Option StoredRow → Option (List ℕ)
kept_in keep row = cond keep (seen_in row) (held_in row)

-- the table that the open transaction sees, by the number of its area
abbrev pub table_seen : BTreeMap Slot StoredRow → ℕ → ℕ → Table
table_seen m n t k = seen_in (row_at m (n, t, k))

-- the values that the open transaction sees
abbrev pub rows_seen : BTreeMap Slot StoredRow → Values
rows_seen m p = seen_in (row_at m p)

-- the values that are held
abbrev pub rows_held : BTreeMap Slot StoredRow → Values
rows_held m p = held_in (row_at m p)

-- ---- a search for the next key

-- the entries above a slot, in order
abbrev pub entries_above : Slot → BTreeMap Slot StoredRow → List (Slot × StoredRow)
entries_above s m = entries_between slot_cmp (Excluded s) Unbounded m.entries

-- the search for the next key stops at the entry: it is of another table, or a value is seen in it
abbrev pub stops : ℕ → ℕ → Slot × StoredRow → Bool
stops n t e = (is_some e.1.now || not (e.0.area == n)) || not (e.0.table == t)

-- ---- changes

-- the open transaction changed the row
abbrev pub is_changed : Option StoredRow → Bool
is_changed None = false
is_changed (Some row) = is_some row.before

-- the open transaction didn't change the row, and if there is a row, it has a value
abbrev pub is_settled : Option StoredRow → Bool
is_settled None = true
is_settled (Some row) = not (is_some row.before) && is_some row.now

-- some slot of the list is at the place
abbrev pub is_named : List Slot → Place → Bool
is_named slots p = list_any (λ s. same_place (place_of s) p) slots

-- each row has a key of the size of a key, and the list names each place that isn't settled
pub record AreRows (m : BTreeMap Slot StoredRow) (touched : List Slot) : Type 0 where
  pub keys : (p : Place) → is_some (row_at m p) ≡ true → IsKeySize p.2
  pub others : (p : Place) → is_named touched p ≡ false → is_settled (row_at m p) ≡ true

-- the map has this row at one place, or none, and at every other place what it had
abbrev pub SetsRow : Place → Option StoredRow → BTreeMap Slot StoredRow → BTreeMap Slot StoredRow → Type 0
SetsRow at row m n = (p : Place) → row_at n p ≡ cond (same_place at p) row (row_at m p)

-- the row after the transaction set this value, or removed it
abbrev pub changed_row : Option StoredRow → Option StoredValue → StoredRow
changed_row None value = record { now = value; before = Some None }
changed_row (Some row) value = record { now = value; before = Some (unwrap_or row.before row.now) }

-- a row that holds this value, if there is one
abbrev pub row_holding : Option StoredValue → Option StoredRow
row_holding None = None
row_holding (Some value) = Some (record { now = Some value; before = None })

-- the row after the transaction, if it is kept or else if it is not
abbrev pub settled : Bool → Option StoredRow → Option StoredRow
settled keep None = None
settled keep (Some row) = row_holding (cond keep row.now (unwrap_or row.before row.now))
