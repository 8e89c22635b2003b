use Rattle.std.proofs.Common.{◌≡◌, length, take}
use Rattle.std.specs.Prelude.{is_some}
use Rattle.std.specs.List.{All, filter}
use Rattle.rows_in_runs.specs.Rows.{rows_of, IsRow}
use Rattle.rows_in_runs.proofs.row.copy_rows.Given as goal

abbrev pub invariant-loop-row : goal.invariant-loop-row
invariant-loop-row l = record {
  copied : rows_of l.new_bytes.items l.new_rows.items ≡ filter (λ r. is_some r.1) (rows_of l.bytes (take l.row-index l.rows));
  fit : All (IsRow (length l.new_bytes.items)) l.new_rows.items;
}
