use Rattle.std.proofs.Common.{Some, sym, ap, subst, ◌∙◌}
use Rattle.std.specs.Prelude.{IfOk, OnErr, Option}
use Rattle.std.specs.Option.{unwrap_or}
use Rattle.std.specs.BTreeMap.{BTreeMap}
use Rattle.std.specs.BTreeMap.Entry.{map_with_value}
use Rattle.keep_map.specs.Put.{RunPuts}
use Rattle.keep_map.specs.Tables.{TableRows, id_of, tables_of, seen_in_run, RunBecomes, OnlyChanges, IsNamed}
use Rattle.keep_map.specs.declared.table_id.TableId.{TableId}
use Rattle.keep_map.specs.declared.table_run.TableRun.{TableRun}
use Rattle.keep_map.proofs.AllRuns.{moved, rows_here, other_tables, entry_before}
use Rattle.keep_map.proofs.table_runs.put_in.Goals as goal

pub returns-clause-ok : goal.returns-clause-ok
returns-clause-ok c =
    let m = c.args.map.now in
    let at = id_of c.args.id in
    let new = c.put.new.self in
    let n = map_with_value c.in_ok-map.field-0 new in
    let before = entry_before m c.args.id c.new.result c.or_insert-table.result.now (c.or_insert-table.ensures.value ∙ ap (λ (r : Option TableRun). unwrap_or r c.new.result) c.in_ok-map.ensures.value) c.new.ensures in
    let after = sym (rows_here m n c.args.id (Some new) (c.in_ok-map.ensures.update.0 new)) in
    subst (λ (last : BTreeMap TableId TableRun). IfOk c.put.result (RunPuts at c.args.key.now c.args.value.now c.args.others.now.map (tables_of m at) (tables_of last at))) (sym (c.map-3-1.given.1 (sym c.in_ok-map.ensures.same_map)))
    (moved (λ (a b : TableRows). IfOk c.put.result (RunPuts at c.args.key.now c.args.value.now c.args.others.now.map a b)) before after c.put.ensures.ok)

pub returns-clause-others : goal.returns-clause-others
returns-clause-others c =
    let m = c.args.map.now in
    let new = c.put.new.self in
    subst (λ (last : BTreeMap TableId TableRun). OnlyChanges (id_of c.args.id) (tables_of m) (tables_of last)) (sym (c.map-3-1.given.1 (sym c.in_ok-map.ensures.same_map)))
    (other_tables m (map_with_value c.in_ok-map.field-0 new) c.args.id (Some new) (c.in_ok-map.ensures.update.0 new))

pub returns-clause-touched : goal.returns-clause-touched
returns-clause-touched c =
    let m = c.args.map.now in
    let at = id_of c.args.id in
    let new = c.put.new.self in
    let n = map_with_value c.in_ok-map.field-0 new in
    let before = entry_before m c.args.id c.new.result c.or_insert-table.result.now (c.or_insert-table.ensures.value ∙ ap (λ (r : Option TableRun). unwrap_or r c.new.result) c.in_ok-map.ensures.value) c.new.ensures in
    let after = sym (rows_here m n c.args.id (Some new) (c.in_ok-map.ensures.update.0 new)) in
    subst (λ (last : BTreeMap TableId TableRun). IsNamed c.args.id c.args.touched.now.items c.put.new.touched.items (tables_of m at) (tables_of last at)) (sym (c.map-3-1.given.1 (sym c.in_ok-map.ensures.same_map)))
    (moved (IsNamed c.args.id c.args.touched.now.items c.put.new.touched.items) before after c.put.ensures.touched)

pub returns-clause-err : goal.returns-clause-err
returns-clause-err c =
    let m = c.args.map.now in
    let at = id_of c.args.id in
    let new = c.put.new.self in
    let n = map_with_value c.in_ok-map.field-0 new in
    let before = entry_before m c.args.id c.new.result c.or_insert-table.result.now (c.or_insert-table.ensures.value ∙ ap (λ (r : Option TableRun). unwrap_or r c.new.result) c.in_ok-map.ensures.value) c.new.ensures in
    let after = sym (rows_here m n c.args.id (Some new) (c.in_ok-map.ensures.update.0 new)) in
    subst (λ (last : BTreeMap TableId TableRun). OnErr c.put.result (RunBecomes (seen_in_run (tables_of m at)) (tables_of m at) (tables_of last at))) (sym (c.map-3-1.given.1 (sym c.in_ok-map.ensures.same_map)))
    (moved (λ (a b : TableRows). OnErr c.put.result (RunBecomes (seen_in_run a) a b)) before after c.put.ensures.err)
