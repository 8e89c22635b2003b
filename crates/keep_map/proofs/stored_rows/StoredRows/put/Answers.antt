use Rattle.std.proofs.Common.{subst}
use Rattle.std.proofs.lemmas.Result.{on_ok_weaker}
use Rattle.keep_map.specs.Put.{RunsPut}
use Rattle.keep_map.specs.Tables.{tables_of, id_of}
use Rattle.keep_map.proofs.Merging.{seen_in_place, apart_in_place, seen_beside, apart_by_put}
use Rattle.keep_map.proofs.stored_rows.StoredRows.put.Goals as goal

pub invariant_of-self-then-in_run : goal.invariant_of-self-then-in_run
invariant_of-self-then-in_run c =
    let f = tables_of c.args.self.now.runs.map in
    let g = tables_of c.put.new.self.map in
    let m = c.args.self.now.others.map in
    let t = id_of c.new-id.result in
    let puts = subst (RunsPut t c.args.key.now c.args.value.now m f g) c.if-in_run.true c.in_ok-in_run.ensures.ok in
    record { disjoint = apart_in_place f g m c.args.self.now.disjoint t c.args.key.now c.args.area c.args.table c.new-id.ensures c.args.value.now puts }

pub returns-then-in_run-clause-ok : goal.returns-then-in_run-clause-ok
returns-then-in_run-clause-ok c =
    let f = tables_of c.args.self.now.runs.map in
    let g = tables_of c.put.new.self.map in
    let m = c.args.self.now.others.map in
    let t = id_of c.new-id.result in
    let puts = subst (RunsPut t c.args.key.now c.args.value.now m f g) c.if-in_run.true c.in_ok-in_run.ensures.ok in
    seen_in_place f g m c.args.self.now.disjoint t c.args.key.now c.args.area c.args.table c.new-id.ensures c.args.value.now puts

pub invariant_of-self-2 : goal.invariant_of-self-2
invariant_of-self-2 c =
    let f = tables_of c.args.self.now.runs.map in
    let g = tables_of c.put.new.self.map in
    let m = c.args.self.now.others.map in
    let t = id_of c.new-id.result in
    let puts = subst (RunsPut t c.args.key.now c.args.value.now m f g) c.if-in_run.false c.in_ok-in_run.ensures.ok in
    record { disjoint = apart_by_put f g m c.args.self.now.disjoint t c.args.key.now c.args.area c.args.table c.new-id.ensures c.put-2.result c.put-2.new.self.map c.args.value.now puts c.put-2.ensures.ok c.put-2.ensures.err c.put-2.ensures.held }

pub returns-clause-ok : goal.returns-clause-ok
returns-clause-ok c =
    let f = tables_of c.args.self.now.runs.map in
    let g = tables_of c.put.new.self.map in
    let m = c.args.self.now.others.map in
    let t = id_of c.new-id.result in
    let puts = subst (RunsPut t c.args.key.now c.args.value.now m f g) c.if-in_run.false c.in_ok-in_run.ensures.ok in
    on_ok_weaker c.put-2.result (seen_beside f g m c.args.self.now.disjoint t c.args.key.now c.args.area c.args.table c.new-id.ensures c.put-2.new.self.map c.args.value.now puts) c.put-2.ensures.ok
