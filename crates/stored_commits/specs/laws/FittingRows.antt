-- Rows fit their table after a change that suits it.
use Rattle.std.proofs.Common.{◌≡◌, Bool, true, false, cond, ◌&&◌, ◌||◌, refl, IsTrue, bytes_eq}
use Rattle.std.specs.FinMap.{remove}
use Rattle.std.proofs.lemmas.Bool.{and_parts}
use Rattle.repl_model.specs.Words.{images, Change, TableDef, Rows, key_of, same_values, table_of, effect, after_change, fits, change_fits, is_signal}
use Rattle.repl_types.specs.declared.record.Change.TheVariants.{Insert, Update, Delete, Start, Stop}
use Rattle.stored_commits.specs.records.SourceTables.{RowsFit, RowsStayFitting}
use Rattle.stored_commits.specs.laws.StoredRows.{inserted_all, left_all}

-- the rows of the changed table fit it
effect_fits : (def : TableDef) (change : Change) (rows : Rows) → RowsFit def rows → (is_signal change || change_fits def change) ≡ true → RowsFit def (effect def change rows)
unfolding change_fits
effect_fits def (Insert table row) rows all suits = inserted_all (λ entry. IsTrue (fits def entry.1)) rows (key_of def row) row suits all
effect_fits def (Update table before after) rows all suits =
    inserted_all (λ entry. IsTrue (fits def entry.1)) (remove rows (key_of def before)) (key_of def after) after
    (and_parts (fits def before) (fits def after) (and_parts (fits def before && fits def after) (same_values (images def.fixed before) (images def.fixed after)) suits).0).1
    (left_all (λ entry. IsTrue (fits def entry.1)) rows (key_of def before) all)
effect_fits def (Delete table row) rows all suits = left_all (λ entry. IsTrue (fits def entry.1)) rows (key_of def row) all
effect_fits def (Start table) rows all suits = all
effect_fits def (Stop table) rows all suits = all

-- rows fit their table after a change of any table that suits it
pub change_fits_rows : RowsStayFitting
unfolding after_change
change_fits_rows def change rows all suits = by_table (bytes_eq (table_of change) def.name) refl
  where
    by_table : (b : Bool) → bytes_eq (table_of change) def.name ≡ b → RowsFit def (cond b (effect def change rows) rows)
    by_table true e = effect_fits def change rows all (suits e)
    by_table false e = all
