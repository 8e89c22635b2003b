use Rattle.std.proofs.Common.{◌≡◌, length}
use Rattle.keep_map.specs.Places.{Place}
use Rattle.keep_map.specs.Scattered.{row_at, kept_in}
use Rattle.keep_map.proofs.scattered_rows.ScatteredRows.settle.Given as goal

abbrev pub invariant-loop-slot : goal.invariant-loop-slot
invariant-loop-slot l = (p : Place) → kept_in l.keep (row_at l.self.map p) ≡ kept_in l.keep (row_at l.fn.self.map p)

abbrev pub decreases-loop-slot : goal.decreases-loop-slot
decreases-loop-slot l = length l.self.touched.items
