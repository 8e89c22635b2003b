use Rattle.std.proofs.Common.{rules, ◌≡◌, ◌<◌, ◌∷◌, [], ◌++◌, ap, sym, ◌∙◌, true, false, length, slice_index_or}
use Rattle.repl_model.specs.Words.{TableDef}
use Rattle.load_plan.specs.Limits.{gets_table}
use Rattle.load_plan.proofs.Numbered.{rows_with, rows_without, count_with, count_without}
use Rattle.load_plan.proofs.additions.tables_added.Goals as goal
use Rattle.load_plan.proofs.additions.tables_added.Goals.{then-gets_table+in_ok-def+in_ok-push, else-gets_table}

pub tables-preserved : goal.tables-preserved
tables-preserved c =
    let tables = c.args.defs.now.tables in
    let i = c.tables.table-index in
    let table = c.table-item.result in
    let gets = gets_table c.args.server.now in
    let within : i < length tables = search rules in
    let is : table ≡ slice_index_or tables i table = search rules in
    elim c.if-gets_table.branch [
      | then-gets_table+in_ok-def+in_ok-push w ↦
          let gains : gets table ≡ true = sym c.gets_table.ensures ∙ w.if-gets_table.true in
          let grown : c.if-gets_table.rows ≡ c.tables.rows ++ record { number = c.tables.number; def = table.def } ∷ [] = w.rows-is ∙ w.in_ok-push.ensures.items ∙ ap (λ (def : TableDef). c.tables.rows ++ record { number = c.tables.number; def = def } ∷ []) w.in_ok-def.ensures in
          record {
            rows = rows_with (λ t. record { number = t.0; def = t.1.def }) gets tables i table _ _ _ _ _ within is gains grown w.number-is c.tables.invariant.rows;
            count = count_with gets tables i table _ _ _ within is gains w.number-is c.tables.invariant.count;
          }
      | else-gets_table w ↦
          let has : gets table ≡ false = sym c.gets_table.ensures ∙ w.if-gets_table.false in
          record {
            rows = rows_without (λ t. record { number = t.0; def = t.1.def }) gets tables i table _ _ _ _ _ within is has w.rows-is w.number-is c.tables.invariant.rows;
            count = count_without gets tables i table _ _ _ within is has w.number-is c.tables.invariant.count;
          }
    ]
