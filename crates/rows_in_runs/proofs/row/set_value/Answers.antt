use Rattle.std.proofs.Common.{set, sym, ap, ◌∙◌, arith}
use Rattle.rows_in_runs.specs.declared.row.RunRow.{RunRow}
use Rattle.rows_in_runs.proofs.Changed.{set_is, past_end}
use Rattle.rows_in_runs.proofs.row.set_value.Goals as goal

pub returns-then-at-len : goal.returns-then-at-len
returns-then-at-len c =
    ap (λ (r : RunRow). set c.args.rows.now.items c.args.at (record r { now = c.args.now })) c.index_mut.ensures.value
    ∙ set_is c.args.rows.now.items c.args.at c.args.now c.index_mut.result.now

pub returns-else-at-len : goal.returns-else-at-len
returns-else-at-len c = sym (past_end c.args.rows.now.items c.args.at c.args.now (omega arith))
