-- Expressions that are being evaluated.
use Rattle.std.specs.Prelude.{◌≡◌, ◌<◌, ℕ, ◌+◌, List, [], ◌∷◌}
use Rattle.repl_types.specs.Value.{Values}
use Rattle.repl_types.specs.declared.value.Value.{Value}
use Rattle.repl_definitions.specs.declared.expr.Expr.{Expr, Expr-F, fold-Expr}
use Rattle.repl_definitions.specs.declared.expr.Expr.TheOpen as layer
use Rattle.repl_model.specs.Expressions.{value_of}
use Rattle.row_expr.specs.declared.expression.Top.{Top}
use Rattle.row_expr.specs.declared.expression.Top.TheVariants.{Leaf, Joined}
use Rattle.row_expr.specs.declared.expression.Waiting.{Waiting}
use Rattle.row_expr.specs.declared.expression.Waiting.TheVariants.{ForLeft, ForRight}
use Rattle.row_expr.specs.declared.expression.Next.{Next}
use Rattle.row_expr.specs.declared.expression.Next.TheVariants.{Evaluate, Finished}
use Rattle.row_expr.specs.Operations.{result_of}

-- ---- expressions

-- how many expressions a layer is made of, given how many those below it are made of
abbrev pub layer_size : Expr-F ℕ → ℕ
layer_size (layer.Column place) = 1
layer_size (layer.Int n) = 1
layer_size (layer.Text t) = 1
layer_size (layer.Add left right) = 1 + left + right
layer_size (layer.Sub left right) = 1 + left + right
layer_size (layer.Mul left right) = 1 + left + right
layer_size (layer.Concat left right) = 1 + left + right

-- how many expressions an expression is made of, itself among them
abbrev pub expr_size : Expr → ℕ
expr_size = fold-Expr ℕ layer_size

-- this is at the top of an expression: a leaf with its value, or an operator and the sides that it joins
abbrev pub IsTopOf : Values → Expr → Top → Type 0
IsTopOf row e (Leaf v) = v ≡ value_of row e
IsTopOf row e (Joined operator left right) = (result_of operator (value_of row left.now) (value_of row right.now) ≡ value_of row e) × (expr_size left.now + expr_size right.now < expr_size e)

-- ---- operations that wait for a side

-- the value of an operation, given the value that it waits for
abbrev pub operation_value : Values → Waiting → Value → Value
operation_value row (ForLeft operator right) v = result_of operator v (value_of row right.now)
operation_value row (ForRight operator left) v = result_of operator left v

-- how many expressions are still to be evaluated once the operation has the value that it waits for: those
-- of its right side, if it waits for the left side
abbrev pub rest_size : Waiting → ℕ
rest_size (ForLeft operator right) = expr_size right.now
rest_size (ForRight operator left) = 0

-- how many there are in all of several operations
abbrev pub rest_sizes : List Waiting → ℕ
rest_sizes [] = 0
rest_sizes (operation ∷ later) = rest_size operation + rest_sizes later

-- the value of the first of several operations, each of which waits for the one after it, given the value
-- that the last waits for
abbrev pub whole_value : Values → List Waiting → Value → Value
whole_value row [] v = v
whole_value row (operation ∷ later) v = operation_value row operation (whole_value row later v)

-- ---- what comes next

-- the value that operations and what comes next lead to
abbrev pub outcome : Values → List Waiting → Next → Value
outcome row waiting (Evaluate e) = whole_value row waiting (value_of row e.now)
outcome row waiting (Finished v) = v

-- how many expressions are still to be evaluated, with what comes next
abbrev pub next_size : List Waiting → Next → ℕ
next_size waiting (Evaluate e) = rest_sizes waiting + expr_size e.now
next_size waiting (Finished v) = 0
