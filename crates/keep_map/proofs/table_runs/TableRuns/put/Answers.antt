use Rattle.std.proofs.Common.{refl}
use Rattle.std.proofs.lemmas.Result.{IfOk-weaker, on_err_weaker}
use Rattle.keep_map.specs.Put.{RunPuts, RunsPut}
use Rattle.keep_map.specs.Tables.{id_of, tables_of}
use Rattle.keep_map.proofs.AllRuns.{puts_all, runs_keep, stay_touched}
use Rattle.keep_map.proofs.table_runs.TableRuns.put.Goals as goal

pub returns-clause-ok : goal.returns-clause-ok
returns-clause-ok c =
    let f = tables_of c.args.self.now.map in
    let g = tables_of c.put_in.new.map in
    let at = id_of c.args.id in
    IfOk-weaker c.put_in.result (RunPuts at c.args.key.now c.args.value.now c.args.others.now.map (f at) (g at)) (RunsPut at c.args.key.now c.args.value.now c.args.others.now.map f g)
    (puts_all f g at c.args.key.now c.args.value.now c.args.others.now.map c.put_in.ensures.others) c.put_in.ensures.ok

pub returns-clause-err : goal.returns-clause-err
returns-clause-err c =
    on_err_weaker c.put_in.result (runs_keep (tables_of c.args.self.now.map) (tables_of c.put_in.new.map) (id_of c.args.id) c.put_in.ensures.others) c.put_in.ensures.err

pub invariant_of-self : goal.invariant_of-self
invariant_of-self c =
    record { sound = stay_touched (tables_of c.args.self.now.map) (tables_of c.put_in.new.map) (id_of c.args.id) c.put_in.ensures.others c.args.id refl c.args.self.now.touched.items c.put_in.new.touched.items c.put_in.ensures.touched c.args.self.now.sound }
