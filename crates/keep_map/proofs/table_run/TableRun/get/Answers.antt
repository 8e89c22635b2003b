use Rattle.std.proofs.Common.{ap, sym, ◌∙◌}
use Rattle.rows_in_runs.specs.Runs.{value_in}
use Rattle.keep_map.proofs.RunChanges.{no_spot, same_rows}
use Rattle.keep_map.proofs.table_run.TableRun.get.Goals as goal

pub returns-in_default-clause-found : goal.returns-in_default-clause-found
returns-in_default-clause-found c =
    let same = c.spot.ensures.same in
    let none = ap value_in (sym (same.seen c.args.key.now) ∙ no_spot c.spot.new.self c.args.key.now c.spot.result c.spot.ensures.spot c.in_default.not-At) in
    none

pub returns-in_err-extend_from_slice-clause-same : goal.returns-in_err-extend_from_slice-clause-same
returns-in_err-extend_from_slice-clause-same c = same_rows c.args.self.now.run c.spot.new.self c.args.self.now.has_more c.spot.ensures.same

pub returns-clause-same : goal.returns-clause-same
returns-clause-same c = same_rows c.args.self.now.run c.spot.new.self c.args.self.now.has_more c.spot.ensures.same
