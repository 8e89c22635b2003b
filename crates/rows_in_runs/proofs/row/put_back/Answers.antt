use Rattle.std.proofs.Common.{List, sym, ap, ◌∙◌}
use Rattle.rows_in_runs.specs.declared.row.RunRow.{RunRow}
use Rattle.rows_in_runs.specs.Rows.{rows_before}
use Rattle.rows_in_runs.proofs.Changed.{newest_first}
use Rattle.rows_in_runs.proofs.row.put_back.Goals as goal

pub loop-old-preserved : goal.loop-old-preserved
loop-old-preserved c =
    ap (λ (rows : List RunRow). rows_before rows c.pop.new.self.items) c.set_value.ensures
    ∙ sym (newest_first c.loop-old.rows.items c.pop.new.self.items c.in-Some.old)
    ∙ ap (rows_before c.loop-old.rows.items) (sym c.in-Some.ensures.items)
    ∙ c.loop-old.invariant
