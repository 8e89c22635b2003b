-- The kinds of expressions and predicates, node by node. There is nothing to believe here.
use Rattle.std.proofs.Common.{◌≡◌, ℕ, ℤ, Bool, true, ◌&&◌, ◌||◌, List, Option, Some, None, cond, sym, ap, ◌∙◌}
use Rattle.repl_types.specs.declared.table.Kind.{Kind}
use Rattle.repl_types.specs.declared.table.Kind.TheVariants as kinds
use Rattle.repl_types.specs.declared.table.ColumnDef.{ColumnDef}
use Rattle.repl_definitions.specs.declared.expr.Expr.{Expr, fold-roll-Expr}
use Rattle.repl_definitions.specs.declared.expr.Expr.TheOpen as layer
use Rattle.repl_definitions.specs.declared.expr.Expr.TheVariants as exprs
use Rattle.repl_definitions.specs.declared.predicate.CompareOp.{CompareOp}
use Rattle.repl_definitions.specs.declared.predicate.Operand.{Operand}
use Rattle.repl_definitions.specs.declared.predicate.Predicate.{Predicate, fold-roll-Predicate}
use Rattle.repl_definitions.specs.declared.predicate.Predicate.TheOpen as test
use Rattle.repl_definitions.specs.declared.predicate.Predicate.TheVariants as predicates
use Rattle.repl_model.specs.Rules.{operand_kind, layer_fits, kinds_fit, column_kind, is_int, is_text, layer_kind, kind_of}

-- ---- expressions

-- the kind of a column
pub kind_column : (columns : List ColumnDef) (place : ℕ) → kind_of columns (exprs.Column place) ≡ column_kind columns place
unfolding kind_of
kind_column columns place = ap (kind_of columns) (sym (exprs.rolls-Column place)) ∙ fold-roll-Expr (Option Kind) (layer_kind columns) (layer.Column place)

-- the kind of an integer
pub kind_int : (columns : List ColumnDef) (n : ℤ) → kind_of columns (exprs.Int n) ≡ Some kinds.Int
unfolding kind_of
kind_int columns n = ap (kind_of columns) (sym (exprs.rolls-Int n)) ∙ fold-roll-Expr (Option Kind) (layer_kind columns) (layer.Int n)

-- the kind of a text
pub kind_text : (columns : List ColumnDef) (t : List ℕ) → kind_of columns (exprs.Text t) ≡ Some kinds.Text
unfolding kind_of
kind_text columns t = ap (kind_of columns) (sym (exprs.rolls-Text t)) ∙ fold-roll-Expr (Option Kind) (layer_kind columns) (layer.Text t)

-- the kind of a sum
pub kind_add : (columns : List ColumnDef) (left right : Expr) → kind_of columns (exprs.Add left right) ≡ cond (is_int (kind_of columns left) && is_int (kind_of columns right)) (Some kinds.Int) None
unfolding kind_of
kind_add columns left right = ap (kind_of columns) (sym (exprs.rolls-Add left right)) ∙ fold-roll-Expr (Option Kind) (layer_kind columns) (layer.Add left right)

-- the kind of a difference
pub kind_sub : (columns : List ColumnDef) (left right : Expr) → kind_of columns (exprs.Sub left right) ≡ cond (is_int (kind_of columns left) && is_int (kind_of columns right)) (Some kinds.Int) None
unfolding kind_of
kind_sub columns left right = ap (kind_of columns) (sym (exprs.rolls-Sub left right)) ∙ fold-roll-Expr (Option Kind) (layer_kind columns) (layer.Sub left right)

-- the kind of a product
pub kind_mul : (columns : List ColumnDef) (left right : Expr) → kind_of columns (exprs.Mul left right) ≡ cond (is_int (kind_of columns left) && is_int (kind_of columns right)) (Some kinds.Int) None
unfolding kind_of
kind_mul columns left right = ap (kind_of columns) (sym (exprs.rolls-Mul left right)) ∙ fold-roll-Expr (Option Kind) (layer_kind columns) (layer.Mul left right)

-- the kind of two texts, one after another
pub kind_concat : (columns : List ColumnDef) (left right : Expr) → kind_of columns (exprs.Concat left right) ≡ cond (is_text (kind_of columns left) && is_text (kind_of columns right)) (Some kinds.Text) None
unfolding kind_of
kind_concat columns left right = ap (kind_of columns) (sym (exprs.rolls-Concat left right)) ∙ fold-roll-Expr (Option Kind) (layer_kind columns) (layer.Concat left right)

-- ---- predicates

-- whether a comparison fits
pub fits_compare : (columns : List ColumnDef) (left : Operand) (op : CompareOp) (right : Operand) → kinds_fit columns (predicates.Compare left op right) ≡ (is_int (operand_kind columns left) && is_int (operand_kind columns right) || is_text (operand_kind columns left) && is_text (operand_kind columns right))
unfolding kinds_fit
fits_compare columns left op right = ap (kinds_fit columns) (sym (predicates.rolls-Compare left op right)) ∙ fold-roll-Predicate Bool (layer_fits columns) (test.Compare left op right)

-- a test for NULL fits
pub fits_null : (columns : List ColumnDef) (place : ℕ) → kinds_fit columns (predicates.IsNull place) ≡ true
unfolding kinds_fit
fits_null columns place = ap (kinds_fit columns) (sym (predicates.rolls-IsNull place)) ∙ fold-roll-Predicate Bool (layer_fits columns) (test.IsNull place)

-- a test for another value than NULL fits
pub fits_not_null : (columns : List ColumnDef) (place : ℕ) → kinds_fit columns (predicates.IsNotNull place) ≡ true
unfolding kinds_fit
fits_not_null columns place = ap (kinds_fit columns) (sym (predicates.rolls-IsNotNull place)) ∙ fold-roll-Predicate Bool (layer_fits columns) (test.IsNotNull place)

-- whether two predicates fit that are both to be true
pub fits_and : (columns : List ColumnDef) (left right : Predicate) → kinds_fit columns (predicates.And left right) ≡ (kinds_fit columns left && kinds_fit columns right)
unfolding kinds_fit
fits_and columns left right = ap (kinds_fit columns) (sym (predicates.rolls-And left right)) ∙ fold-roll-Predicate Bool (layer_fits columns) (test.And left right)

-- whether two predicates fit one of which is to be true
pub fits_or : (columns : List ColumnDef) (left right : Predicate) → kinds_fit columns (predicates.Or left right) ≡ (kinds_fit columns left && kinds_fit columns right)
unfolding kinds_fit
fits_or columns left right = ap (kinds_fit columns) (sym (predicates.rolls-Or left right)) ∙ fold-roll-Predicate Bool (layer_fits columns) (test.Or left right)
