use Rattle.std.proofs.Common.{◌≡◌, take, filter_map}
use Rattle.repl_model.specs.Words.{plain_value}
use Rattle.apply_copies.proofs.rows.target_row.Given as goal

abbrev pub invariant-loop-column : goal.invariant-loop-column
invariant-loop-column l = l.values ≡ filter_map (λ column. plain_value l.row column.from) (take l.column-index l.column-items)
