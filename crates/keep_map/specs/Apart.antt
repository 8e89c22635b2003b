-- Rows in runs, and rows beside them: no key has both.
use Rattle.std.specs.Prelude.{◌≡◌, ℕ, true, false, List, None, is_some}
use Rattle.std.specs.BTreeMap.{BTreeMap}
use Rattle.keep_map.specs.Places.{Place}
use Rattle.keep_map.specs.Scattered.{rows_seen, rows_held}
use Rattle.keep_map.specs.Tables.{TablePlace, Tables}
use Rattle.keep_map.specs.declared.slot.Slot.{Slot}
use Rattle.keep_map.specs.declared.stored_row.StoredRow.{StoredRow}

-- no value is seen or held at the place
pub record IsBare (m : BTreeMap Slot StoredRow) (p : Place) : Type 0 where
  pub seen : rows_seen m p ≡ None
  pub held : rows_held m p ≡ None

-- there are rows beside a run only if it says so, and only at keys at which it has no row
pub record AreDisjoint (ts : Tables) (m : BTreeMap Slot StoredRow) : Type 0 where
  pub rows : (t : TablePlace) (k : List ℕ) → is_some ((ts t).now k) ≡ true → IsBare m (t.0, t.1, k)
  pub more : (t : TablePlace) (k : List ℕ) → (ts t).has_more ≡ false → IsBare m (t.0, t.1, k)
