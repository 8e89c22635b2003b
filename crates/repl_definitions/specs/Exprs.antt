-- The spellings of expressions.
use Rattle.std.specs.Prelude.{ℕ, List, [], ◌∷◌, ◌++◌}
use Rattle.repl_types.specs.ValueText.{IsValue}
use Rattle.repl_types.specs.declared.value.Value.TheVariants as values
use Rattle.repl_definitions.specs.declared.expr.Expr.{Expr, Expr-F, out-Expr, fold-Expr}
use Rattle.repl_definitions.specs.declared.expr.Expr.TheOpen as layer
use Rattle.repl_definitions.specs.declared.nested.Root.{Root}
use Rattle.repl_definitions.specs.declared.nested.Root.TheVariants.{Single, Joined}
use Rattle.repl_definitions.specs.declared.expr.ExprLeaf.{ExprLeaf}
use Rattle.repl_definitions.specs.declared.expr.ExprLeaf.TheVariants.{Column, Int, Text}
use Rattle.repl_definitions.specs.declared.expr.ExprJoint.{ExprJoint}
use Rattle.repl_definitions.specs.declared.expr.ExprJoint.TheVariants.{Add, Sub, Mul, Concat}
use Rattle.row_codec.specs.Spelling.{b16, Is16, value_spelling}
use Rattle.repl_definitions.specs.Forests.{nodes_spelling, NodesFit}

-- ---- nodes

-- a column's place, an integer or a text, or what joins two expressions
abbrev pub ExprNode : Type 0
ExprNode = Root ExprLeaf ExprJoint

-- 0x10 and a place, 0x11 and a value, or 0x12 to 0x15 for +, -, * and ||
abbrev pub expr_node_spelling : ExprNode → List ℕ
expr_node_spelling (Single (Column place)) = 0x10 ∷ b16 place
expr_node_spelling (Single (Int n)) = 0x11 ∷ value_spelling (values.Int n)
expr_node_spelling (Single (Text t)) = 0x11 ∷ value_spelling (values.Text t)
expr_node_spelling (Joined Add) = 0x12 ∷ []
expr_node_spelling (Joined Sub) = 0x13 ∷ []
expr_node_spelling (Joined Mul) = 0x14 ∷ []
expr_node_spelling (Joined Concat) = 0x15 ∷ []

-- the nodes whose places have two bytes
abbrev pub HasExprNodeSpelling : ExprNode → Type 0
HasExprNodeSpelling (Single (Column place)) = Is16 place
HasExprNodeSpelling (Single (Int n)) = Unit {0}
HasExprNodeSpelling (Single (Text t)) = Unit {0}
HasExprNodeSpelling (Joined joint) = Unit {0}

-- the nodes whose places have two bytes, and whose literals are values
abbrev pub IsExprNode : ExprNode → Type 0
IsExprNode (Single (Column place)) = Is16 place
IsExprNode (Single (Int n)) = IsValue (values.Int n)
IsExprNode (Single (Text t)) = IsValue (values.Text t)
IsExprNode (Joined joint) = Unit {0}

-- ---- expressions

-- the node at the top of a layer of an expression
abbrev pub expr_layer_top : {X : Type 0} → Expr-F X → ExprNode
expr_layer_top (layer.Column place) = Single (Column place)
expr_layer_top (layer.Int n) = Single (Int n)
expr_layer_top (layer.Text t) = Single (Text t)
expr_layer_top (layer.Add left right) = Joined Add
expr_layer_top (layer.Sub left right) = Joined Sub
expr_layer_top (layer.Mul left right) = Joined Mul
expr_layer_top (layer.Concat left right) = Joined Concat

-- the nodes below the top of a layer of an expression: those at the left, then those at the right
abbrev pub expr_layer_below : Expr-F (List ExprNode) → List ExprNode
expr_layer_below (layer.Column place) = []
expr_layer_below (layer.Int n) = []
expr_layer_below (layer.Text t) = []
expr_layer_below (layer.Add left right) = left ++ right
expr_layer_below (layer.Sub left right) = left ++ right
expr_layer_below (layer.Mul left right) = left ++ right
expr_layer_below (layer.Concat left right) = left ++ right

-- the node at the top of an expression
unfoldable pub expr_top : Expr → ExprNode
expr_top e = expr_layer_top (out-Expr e)

-- the nodes of an expression, the top first
unfoldable pub expr_nodes : Expr → List ExprNode
expr_nodes = fold-Expr (List ExprNode) (λ nodes. expr_layer_top nodes ∷ expr_layer_below nodes)

-- an expression is spelled node after node
abbrev pub expr_spelling : Expr → List ℕ
expr_spelling e = nodes_spelling expr_node_spelling (expr_nodes e)

-- the expressions that have a spelling, and whose literals are values
abbrev pub IsExpr : Expr → Type 0
IsExpr e = NodesFit IsExprNode (expr_nodes e)

-- the expressions that have a spelling
abbrev pub HasExprSpelling : Expr → Type 0
HasExprSpelling e = NodesFit HasExprNodeSpelling (expr_nodes e)
