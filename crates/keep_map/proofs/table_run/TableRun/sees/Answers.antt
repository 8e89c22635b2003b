use Rattle.std.proofs.Common.{List, ℕ, Option, ap, sym, ◌∙◌}
use Rattle.std.specs.Prelude.{is_some}
use Rattle.rows_in_runs.specs.Runs.{value_in}
use Rattle.keep_map.proofs.RunChanges.{no_spot, same_rows}
use Rattle.keep_map.proofs.table_run.TableRun.sees.Goals as goal

pub returns-in_default : goal.returns-in_default
returns-in_default c =
    let same = c.spot.ensures.same in
    let none = ap value_in (sym (same.seen c.args.key.now) ∙ no_spot c.spot.new.self c.args.key.now c.spot.result c.spot.ensures.spot c.in_default.not-At) in
    record { seen = sym (ap (λ (v : Option (List ℕ)). is_some v) none); same = same_rows c.args.self.now.run c.spot.new.self c.args.self.now.has_more same }
