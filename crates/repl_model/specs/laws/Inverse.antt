-- A change and then its inverse leave the rows as they were.
use Rattle.std.proofs.Common.{◌≡◌, Bool, true, false, cond, ◌&&◌, ◌||◌, Option, Some, None, is_none, ◌⊎◌, inl, inr, refl, ap, bytes_eq}
use Rattle.std.specs.FinMap.{get, insert, remove}
use Rattle.std.proofs.lemmas.Bool.{and_parts, or_cases}
use Rattle.repl_types.specs.Value.{Values}
use Rattle.repl_types.specs.declared.table.TableDef.{TableDef}
use Rattle.repl_types.specs.declared.record.Change.{Change}
use Rattle.repl_types.specs.declared.record.Change.TheVariants.{Insert, Update, Delete, Start, Stop}
use Rattle.repl_model.specs.Tables.{Rows, key_of, same_values, is_row, holds, applies, after_change, inverse}
use Rattle.repl_model.specs.laws.Rows.{same_values_exact, remove_inserted, insert_deleted, update_back}

-- nothing stands at an absent key
pub none_is : (o : Option Values) → is_none o ≡ true → o ≡ None
none_is None e = refl
none_is (Some row) e = absurd cc

-- if what stands is tested to be a row, it is the row
pub row_is : (row : Values) (o : Option Values) → is_row row o ≡ true → o ≡ Some row
row_is row None e = absurd cc
row_is row (Some found) e = ap (λ (r : Values). Some r) (same_values_exact found row e)

-- a step and the one back, if the change is of the table
undone : (named ok : Bool) (rows : Rows) (there back : Rows → Rows) → (ok ≡ true → back (there rows) ≡ rows) → cond named ok true ≡ true → cond named (back (cond named (there rows) rows)) (cond named (there rows) rows) ≡ rows
undone true ok rows there back h e = h e
undone false ok rows there back h e = refl

-- if a change applies, the change and then its inverse leave the rows as they were
pub undo : (def : TableDef) (change : Change) (rows : Rows) → applies def change rows ≡ true → after_change def (inverse change) (after_change def change rows) ≡ rows
unfolding applies after_change
undo def (Insert table row) rows e =
    let key = key_of def row in
    undone (bytes_eq table def.name) (is_none (get rows key)) rows (λ m. insert m key row) (λ m. remove m key) (λ h. remove_inserted rows key row (none_is (get rows key) h)) e
undo def (Update table before after) rows e =
    let key = key_of def before in
    let new_key = key_of def after in
    let free = same_values key new_key || is_none (get rows new_key) in
    undone (bytes_eq table def.name) (holds def before rows && free) rows (λ m. insert (remove m key) new_key after) (λ m. insert (remove m new_key) key before)
    (λ h. update_back rows key new_key before after (row_is before (get rows key) (and_parts (holds def before rows) free h).0) (free_key (and_parts (holds def before rows) free h).1)) e
  where
    free_key : (same_values (key_of def before) (key_of def after) || is_none (get rows (key_of def after))) ≡ true → (key_of def before ≡ key_of def after) ⊎ (get rows (key_of def after) ≡ None)
    free_key h = elim (or_cases (same_values (key_of def before) (key_of def after)) (is_none (get rows (key_of def after))) h) [
      | inl same ↦ inl (same_values_exact (key_of def before) (key_of def after) same)
      | inr absent ↦ inr (none_is (get rows (key_of def after)) absent)
    ]
undo def (Delete table row) rows e =
    let key = key_of def row in
    undone (bytes_eq table def.name) (holds def row rows) rows (λ m. remove m key) (λ m. insert m key row) (λ h. insert_deleted rows key row (row_is row (get rows key) h)) e
undo def (Start table) rows e = undone (bytes_eq table def.name) true rows (λ m. m) (λ m. m) (λ h. refl) e
undo def (Stop table) rows e = undone (bytes_eq table def.name) true rows (λ m. m) (λ m. m) (λ h. refl) e
