use Rattle.std.proofs.Common.{None, refl, ap, sym, ◌∙◌}
use Rattle.std.proofs.lemmas.Result.{on_ok_weaker}
use Rattle.rows_in_runs.specs.Runs.{value_in}
use Rattle.keep_map.specs.Tables.{run_rows}
use Rattle.keep_map.proofs.RunChanges.{set_at, no_spot, same_rows, unset_none}
use Rattle.keep_map.proofs.table_run.TableRun.unset.Goals as goal

pub returns-in-At-clause-ok : goal.returns-in-At-clause-ok
returns-in-At-clause-ok c =
    on_ok_weaker c.set.result (λ set. set_at c.args.self.now.run c.spot.new.self c.set.new.self c.args.self.now.has_more c.args.key.now None c.in-At.at c.in-At.ensures.spot c.in-At.ensures.same set c.set.ensures.held) c.set.ensures.ok

pub returns-in_default : goal.returns-in_default
returns-in_default c =
    let run = c.args.self.now.run in
    let more = c.args.self.now.has_more in
    let same = c.spot.ensures.same in
    let none = ap value_in (sym (same.seen c.args.key.now) ∙ no_spot c.spot.new.self c.args.key.now c.spot.result c.spot.ensures.spot c.in_default.not-At) in
    record { ok = unset_none (run_rows run more) (run_rows c.spot.new.self more) c.args.key.now none (same_rows run c.spot.new.self more same); more = refl; err = tt }
