use Rattle.std.proofs.Common.{◌≡◌, length}
use Rattle.rows_in_runs.specs.Rows.{rows_before}
use Rattle.rows_in_runs.proofs.row.put_back.Given as goal

abbrev pub invariant-loop-old : goal.invariant-loop-old
invariant-loop-old l = rows_before l.rows.items l.olds.items ≡ rows_before l.fn.rows.items l.fn.olds.items

abbrev pub decreases-loop-old : goal.decreases-loop-old
decreases-loop-old l = length l.olds.items
