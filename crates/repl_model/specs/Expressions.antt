-- The value of an expression for a row, and whether a predicate is true of it.
use Rattle.std.specs.Prelude.{◌-◌, ◌^◌, ℤ, pos, negsuc, ◌+ℤ◌, ◌-ℤ◌, ◌*ℤ◌, int_le, nat_le, Bool, true, false, ◌&&◌, ◌||◌, not, if◌then◌else◌, ◌++◌, length, slice_index_or}
use Rattle.std.specs.Ordering.{is_eq, is_ne, is_lt, is_le, is_gt, is_ge}
use Rattle.std.specs.declared.cmp.Ordering.{Ordering}
use Rattle.repl_types.specs.Sizes.{text_limit}
use Rattle.repl_types.specs.Value.{Values, value_cmp}
use Rattle.repl_types.specs.declared.value.Value.{Value}
use Rattle.repl_types.specs.declared.value.Value.TheVariants.{Null, Int, Text}
use Rattle.repl_definitions.specs.declared.expr.Expr.{Expr, Expr-F, fold-Expr}
use Rattle.repl_definitions.specs.declared.expr.Expr.TheOpen as layer
use Rattle.repl_definitions.specs.declared.predicate.CompareOp.{CompareOp}
use Rattle.repl_definitions.specs.declared.predicate.CompareOp.TheVariants.{Eq, Ne, Lt, Le, Gt, Ge}
use Rattle.repl_definitions.specs.declared.predicate.Operand.{Operand}
use Rattle.repl_definitions.specs.declared.predicate.Operand.TheVariants as operands
use Rattle.repl_definitions.specs.declared.predicate.Predicate.{Predicate, Predicate-F, fold-Predicate}
use Rattle.repl_definitions.specs.declared.predicate.Predicate.TheOpen as test

-- ---- values

-- the value is NULL
abbrev pub is_null : Value → Bool
is_null Null = true
is_null (Int n) = false
is_null (Text t) = false

-- the integers of 64 bits
abbrev pub has_64_bits : ℤ → Bool
has_64_bits n = int_le (negsuc (2 ^ 63 - 1)) n && int_le n (pos (2 ^ 63 - 1))

-- an integer as a value; one that 64 bits don't hold is NULL
abbrev pub integer : ℤ → Value
integer n = if has_64_bits n then Int n else Null

-- what an operation makes of two integers; it makes nothing of another value
abbrev pub of_integers : (ℤ → ℤ → ℤ) → Value → Value → Value
of_integers f (Int n) (Int m) = integer (f n m)
of_integers f (Int n) Null = Null
of_integers f (Int n) (Text t) = Null
of_integers f Null v = Null
of_integers f (Text t) v = Null

-- one text after another; a text of over 1,000 bytes is NULL, and another value is no text
abbrev pub of_texts : Value → Value → Value
of_texts (Text t) (Text u) = if nat_le (length (t ++ u)) text_limit then Text (t ++ u) else Null
of_texts (Text t) Null = Null
of_texts (Text t) (Int n) = Null
of_texts Null v = Null
of_texts (Int n) v = Null

-- ---- expressions

-- the value of an expression, given the values of those below it: a column's is that of the row at its
-- place
abbrev pub layer_value : Values → Expr-F Value → Value
layer_value row (layer.Column place) = slice_index_or row place Null
layer_value row (layer.Int n) = Int n
layer_value row (layer.Text t) = Text t
layer_value row (layer.Add left right) = of_integers ◌+ℤ◌ left right
layer_value row (layer.Sub left right) = of_integers ◌-ℤ◌ left right
layer_value row (layer.Mul left right) = of_integers ◌*ℤ◌ left right
layer_value row (layer.Concat left right) = of_texts left right

-- the value of an expression for a row
unfoldable pub value_of : Values → Expr → Value
value_of row = fold-Expr Value (layer_value row)

-- ---- predicates

-- the value of an operand for a row
abbrev pub operand_value : Values → Operand → Value
operand_value row (operands.Column place) = slice_index_or row place Null
operand_value row (operands.Value v) = v

-- whether values in this order compare so
abbrev pub is_ordered : CompareOp → Ordering → Bool
is_ordered Eq o = is_eq o
is_ordered Ne o = is_ne o
is_ordered Lt o = is_lt o
is_ordered Le o = is_le o
is_ordered Gt o = is_gt o
is_ordered Ge o = is_ge o

-- whether a comparison of two values is true: one with NULL isn't
abbrev pub compares : CompareOp → Value → Value → Bool
compares op v w = not (is_null v) && not (is_null w) && is_ordered op (value_cmp v w)

-- whether a predicate is true, given whether those below it are
abbrev pub layer_truth : Values → Predicate-F Bool → Bool
layer_truth row (test.Compare left op right) = compares op (operand_value row left) (operand_value row right)
layer_truth row (test.IsNull place) = is_null (slice_index_or row place Null)
layer_truth row (test.IsNotNull place) = not (is_null (slice_index_or row place Null))
layer_truth row (test.And left right) = left && right
layer_truth row (test.Or left right) = left || right

-- whether a predicate is true of a row
unfoldable pub is_true_of : Values → Predicate → Bool
is_true_of row = fold-Predicate Bool (layer_truth row)
