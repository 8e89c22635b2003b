-- The value of an expression, the truth of a predicate, and what both read, node by node.
use Rattle.std.proofs.Common.{◌≡◌, ℕ, ℤ, Bool, ◌&&◌, ◌||◌, not, List, [], ◌∷◌, ◌++◌, sym, ap, ◌∙◌, ◌+ℤ◌, ◌-ℤ◌, ◌*ℤ◌, slice_index_or}
use Rattle.repl_types.specs.Value.{Values}
use Rattle.repl_types.specs.declared.value.Value.{Value}
use Rattle.repl_types.specs.declared.value.Value.TheVariants.{Null}
use Rattle.repl_types.specs.declared.value.Value.TheVariants as values
use Rattle.repl_definitions.specs.declared.expr.Expr.{Expr, fold-roll-Expr}
use Rattle.repl_definitions.specs.declared.expr.Expr.TheOpen as layer
use Rattle.repl_definitions.specs.declared.expr.Expr.TheVariants as exprs
use Rattle.repl_definitions.specs.declared.predicate.CompareOp.{CompareOp}
use Rattle.repl_definitions.specs.declared.predicate.Operand.{Operand}
use Rattle.repl_definitions.specs.declared.predicate.Predicate.{Predicate, fold-roll-Predicate}
use Rattle.repl_definitions.specs.declared.predicate.Predicate.TheOpen as test
use Rattle.repl_definitions.specs.declared.predicate.Predicate.TheVariants as predicates
use Rattle.repl_model.specs.Expressions.{is_null, of_integers, of_texts, layer_value, value_of, operand_value, compares, layer_truth, is_true_of}
use Rattle.repl_model.specs.Rules.{layer_columns, columns_read, operand_columns, layer_tested, columns_tested}
use Rattle.repl_model.specs.laws.Kinds.{kind_column, fits_compare}

-- ---- expressions

pub value_column : (row : Values) (place : ℕ) → value_of row (exprs.Column place) ≡ slice_index_or row place Null
unfolding value_of
value_column row place = ap (value_of row) (sym (exprs.rolls-Column place)) ∙ fold-roll-Expr Value (layer_value row) (layer.Column place)

pub value_int : (row : Values) (n : ℤ) → value_of row (exprs.Int n) ≡ values.Int n
unfolding value_of
value_int row n = ap (value_of row) (sym (exprs.rolls-Int n)) ∙ fold-roll-Expr Value (layer_value row) (layer.Int n)

pub value_text : (row : Values) (t : List ℕ) → value_of row (exprs.Text t) ≡ values.Text t
unfolding value_of
value_text row t = ap (value_of row) (sym (exprs.rolls-Text t)) ∙ fold-roll-Expr Value (layer_value row) (layer.Text t)

pub value_add : (row : Values) (left right : Expr) → value_of row (exprs.Add left right) ≡ of_integers ◌+ℤ◌ (value_of row left) (value_of row right)
unfolding value_of
value_add row left right = ap (value_of row) (sym (exprs.rolls-Add left right)) ∙ fold-roll-Expr Value (layer_value row) (layer.Add left right)

pub value_sub : (row : Values) (left right : Expr) → value_of row (exprs.Sub left right) ≡ of_integers ◌-ℤ◌ (value_of row left) (value_of row right)
unfolding value_of
value_sub row left right = ap (value_of row) (sym (exprs.rolls-Sub left right)) ∙ fold-roll-Expr Value (layer_value row) (layer.Sub left right)

pub value_mul : (row : Values) (left right : Expr) → value_of row (exprs.Mul left right) ≡ of_integers ◌*ℤ◌ (value_of row left) (value_of row right)
unfolding value_of
value_mul row left right = ap (value_of row) (sym (exprs.rolls-Mul left right)) ∙ fold-roll-Expr Value (layer_value row) (layer.Mul left right)

pub value_concat : (row : Values) (left right : Expr) → value_of row (exprs.Concat left right) ≡ of_texts (value_of row left) (value_of row right)
unfolding value_of
value_concat row left right = ap (value_of row) (sym (exprs.rolls-Concat left right)) ∙ fold-roll-Expr Value (layer_value row) (layer.Concat left right)

-- ---- predicates

pub truth_compare : (row : Values) (left : Operand) (op : CompareOp) (right : Operand) → is_true_of row (predicates.Compare left op right) ≡ compares op (operand_value row left) (operand_value row right)
unfolding is_true_of
truth_compare row left op right = ap (is_true_of row) (sym (predicates.rolls-Compare left op right)) ∙ fold-roll-Predicate Bool (layer_truth row) (test.Compare left op right)

pub truth_null : (row : Values) (place : ℕ) → is_true_of row (predicates.IsNull place) ≡ is_null (slice_index_or row place Null)
unfolding is_true_of
truth_null row place = ap (is_true_of row) (sym (predicates.rolls-IsNull place)) ∙ fold-roll-Predicate Bool (layer_truth row) (test.IsNull place)

pub truth_not_null : (row : Values) (place : ℕ) → is_true_of row (predicates.IsNotNull place) ≡ not (is_null (slice_index_or row place Null))
unfolding is_true_of
truth_not_null row place = ap (is_true_of row) (sym (predicates.rolls-IsNotNull place)) ∙ fold-roll-Predicate Bool (layer_truth row) (test.IsNotNull place)

pub truth_and : (row : Values) (left right : Predicate) → is_true_of row (predicates.And left right) ≡ (is_true_of row left && is_true_of row right)
unfolding is_true_of
truth_and row left right = ap (is_true_of row) (sym (predicates.rolls-And left right)) ∙ fold-roll-Predicate Bool (layer_truth row) (test.And left right)

pub truth_or : (row : Values) (left right : Predicate) → is_true_of row (predicates.Or left right) ≡ (is_true_of row left || is_true_of row right)
unfolding is_true_of
truth_or row left right = ap (is_true_of row) (sym (predicates.rolls-Or left right)) ∙ fold-roll-Predicate Bool (layer_truth row) (test.Or left right)

-- ---- what trees read

pub read_column : (place : ℕ) → columns_read (exprs.Column place) ≡ place ∷ []
unfolding columns_read
read_column place = ap columns_read (sym (exprs.rolls-Column place)) ∙ fold-roll-Expr (List ℕ) layer_columns (layer.Column place)

pub tested_compare : (left : Operand) (op : CompareOp) (right : Operand) → columns_tested (predicates.Compare left op right) ≡ operand_columns left ++ operand_columns right
unfolding columns_tested
tested_compare left op right = ap columns_tested (sym (predicates.rolls-Compare left op right)) ∙ fold-roll-Predicate (List ℕ) layer_tested (test.Compare left op right)

-- trees, node by node
pub ruleset by_nodes = (value_column, value_int, value_text, value_add, value_sub, value_mul, value_concat, truth_compare, truth_null, truth_not_null, truth_and, truth_or)

-- what trees read, node by node
pub ruleset read_by_nodes = (read_column, kind_column, tested_compare, fits_compare)
