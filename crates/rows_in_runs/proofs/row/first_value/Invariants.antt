use Rattle.rows_in_runs.specs.Rows.{NoValues}
use Rattle.rows_in_runs.proofs.row.first_value.Given as goal

abbrev pub invariant-loop-at : goal.invariant-loop-at
invariant-loop-at l = NoValues l.rows l.from l.at
