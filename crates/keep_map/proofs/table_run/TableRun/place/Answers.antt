use Rattle.std.proofs.Common.{Some}
use Rattle.keep_map.specs.Tables.{run_rows}
use Rattle.rows_in_runs.specs.laws.Runs.{above_has_none}
use Rattle.keep_map.proofs.RunChanges.{set_at, has_row_at, stays, same_rows}
use Rattle.keep_map.proofs.table_run.TableRun.place.Goals as goal

pub returns-in_ok-set-in-At-clause-ok : goal.returns-in_ok-set-in-At-clause-ok
returns-in_ok-set-in-At-clause-ok c =
    let run = c.args.self.now.run in
    let key = c.args.key.now in (
      set_at run c.spot.new.self c.set.new.self c.args.self.now.has_more key (Some c.args.value.now) c.in-At.at c.in-At.ensures.spot c.in-At.ensures.same c.in_ok-set-in-At.ensures.ok c.set.ensures.held,
      λ none more. absurd (has_row_at run c.spot.new.self key c.in-At.at c.in-At.ensures.spot c.in-At.ensures.same none),
    )

pub returns-then-branch-clause-ok : goal.returns-then-branch-clause-ok
returns-then-branch-clause-ok c =
    let run = c.args.self.now.run in
    let more = c.args.self.now.has_more in
    (stays (run_rows run more) (run_rows c.spot.new.self more) (same_rows run c.spot.new.self more c.spot.ensures.same), above_has_none c.spot.new.self c.args.key.now c.in-Above.ensures.spot, c.if-self.true)
