use Rattle.std.proofs.Common.{None, refl}
use Rattle.std.proofs.lemmas.Result.{on_ok_weaker, on_err_weaker}
use Rattle.keep_map.specs.Tables.{id_of, tables_of}
use Rattle.keep_map.proofs.AllRuns.{runs_put, runs_keep, stay_touched}
use Rattle.keep_map.proofs.table_runs.TableRuns.remove.Goals as goal

pub invariant_of-self : goal.invariant_of-self
invariant_of-self c =
    record { sound = stay_touched (tables_of c.args.self.now.map) (tables_of c.remove_in.new.map) (id_of c.args.id) c.remove_in.ensures.others c.args.id refl c.args.self.now.touched.items c.remove_in.new.touched.items c.remove_in.ensures.touched c.args.self.now.sound }

pub returns-clause-ok : goal.returns-clause-ok
returns-clause-ok c =
    on_ok_weaker c.remove_in.result (runs_put (tables_of c.args.self.now.map) (tables_of c.remove_in.new.map) (id_of c.args.id) c.remove_in.ensures.others c.args.key.now None) c.remove_in.ensures.ok

pub returns-clause-err : goal.returns-clause-err
returns-clause-err c =
    on_err_weaker c.remove_in.result (runs_keep (tables_of c.args.self.now.map) (tables_of c.remove_in.new.map) (id_of c.args.id) c.remove_in.ensures.others) c.remove_in.ensures.err
