use Rattle.std.proofs.Common.{◌≡◌, Bool, false, ◌&&◌, eqb, List, [], ◌∷◌, length, refl, sym, ap, ◌∙◌, arith}
use Rattle.std.specs.List.{list_all, zip}
use Rattle.std.proofs.lemmas.Bool.Decides.{nat_tests}
use Rattle.repl_model.specs.Words.{Values, Value, ColumnDef, fits_column, fits_columns}
use Rattle.row_changes.proofs.changes.fits_columns.Goals as goal

-- as many values as columns fit if each fits its column
by_pairs : (columns : List ColumnDef) (row : Values) → length columns ≡ length row → list_all (λ (p : ColumnDef × Value). fits_column p.0 p.1) (zip columns row) ≡ fits_columns columns row
by_pairs [] [] e = refl
by_pairs [] (v ∷ row) e = absurd (omega arith)
by_pairs (column ∷ columns) [] e = absurd (omega arith)
by_pairs (column ∷ columns) (v ∷ row) e = ap (λ (b : Bool). fits_column column v && b) (by_pairs columns row (omega arith))

-- fewer values than columns, or more, don't fit
no_fit : (columns : List ColumnDef) (row : Values) → (length columns ≡ length row → ⊥) → fits_columns columns row ≡ false
no_fit [] [] h = absurd (h refl)
no_fit [] (v ∷ row) h = refl
no_fit (column ∷ columns) [] h = refl
no_fit (column ∷ columns) (v ∷ row) h = grind (arith, no_fit columns row (λ e. h (omega (arith, e))))

pub returns-then-columns-row : goal.returns-then-columns-row
returns-then-columns-row c = c.fits_pairs.ensures ∙ by_pairs c.args.columns.now c.args.row.now c.if-columns-row.true

pub returns-else-columns-row : goal.returns-else-columns-row
returns-else-columns-row c =
    let columns = c.args.columns.now in
    let row = c.args.row.now in
    let differ : eqb (length columns) (length row) ≡ false = grind (arith, nat_tests) in
    differ ∙ sym (no_fit columns row c.if-columns-row.false)
