-- How much of a tree is at the left.
use Rattle.std.specs.Prelude.{ℕ, ◌+◌, ◌*◌}
use Rattle.repl_definitions.specs.declared.expr.Expr.{Expr, Expr-F, fold-Expr}
use Rattle.repl_definitions.specs.declared.expr.Expr.TheOpen as expr
use Rattle.repl_definitions.specs.declared.predicate.Predicate.{Predicate, Predicate-F, fold-Predicate}
use Rattle.repl_definitions.specs.declared.predicate.Predicate.TheOpen.{Compare, IsNull, IsNotNull, And, Or}

-- the weight of a layer of an expression, given the weights of the trees in it. The left counts twice, so
-- that a tree weighs less after its left is moved to its right.
abbrev pub expr_layer : Expr-F ℕ → ℕ
expr_layer (expr.Column place) = 0
expr_layer (expr.Int n) = 0
expr_layer (expr.Text t) = 0
expr_layer (expr.Add left right) = 1 + 2 * left + right
expr_layer (expr.Sub left right) = 1 + 2 * left + right
expr_layer (expr.Mul left right) = 1 + 2 * left + right
expr_layer (expr.Concat left right) = 1 + 2 * left + right

-- the weight of an expression
abbrev pub expr_weight : Expr → ℕ
expr_weight = fold-Expr ℕ expr_layer

-- the weight of a layer of a predicate, given the weights of the trees in it
abbrev pub predicate_layer : Predicate-F ℕ → ℕ
predicate_layer (Compare left op right) = 0
predicate_layer (IsNull place) = 0
predicate_layer (IsNotNull place) = 0
predicate_layer (And left right) = 1 + 2 * left + right
predicate_layer (Or left right) = 1 + 2 * left + right

-- the weight of a predicate
abbrev pub predicate_weight : Predicate → ℕ
predicate_weight = fold-Predicate ℕ predicate_layer
