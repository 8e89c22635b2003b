-- Proofs that expressions have one spelling each. There is nothing to believe here.
use Rattle.std.proofs.Common.{◌≡◌, ℕ, ℤ, List, [], ◌∷◌, ◌++◌, drop, refl, sym, ap, subst, ◌∙◌}
use Rattle.repl_types.specs.declared.value.Value.TheVariants as values
use Rattle.repl_definitions.specs.declared.expr.Expr.{Expr, Expr-F, fold-roll-Expr, ind-Expr, map-Expr, roll-Expr}
use Rattle.repl_definitions.specs.declared.expr.Expr.TheOpen as layer
use Rattle.repl_definitions.specs.declared.expr.Expr.TheVariants as exprs
use Rattle.repl_definitions.specs.declared.nested.Root.TheVariants.{Single, Joined}
use Rattle.repl_definitions.specs.declared.expr.ExprLeaf.{ExprLeaf}
use Rattle.repl_definitions.specs.declared.expr.ExprLeaf.TheVariants.{Column, Int, Text}
use Rattle.repl_definitions.specs.declared.expr.ExprJoint.{ExprJoint}
use Rattle.repl_definitions.specs.declared.expr.ExprJoint.TheVariants.{Add, Sub, Mul, Concat}
use Rattle.row_codec.specs.laws.Tags.{other_tag}
use Rattle.row_codec.specs.Takes.{One}
use Rattle.row_codec.specs.laws.Numbers.{one16}
use Rattle.row_codec.specs.laws.Values.{one_value}
use Rattle.repl_definitions.specs.Forests.{IsForest}
use Rattle.repl_definitions.specs.laws.Forests.{Trees, one_tree, same_tree, one_nested, has_first}
use Rattle.repl_types.specs.laws.Lists.{all_weaker}
use Rattle.repl_definitions.specs.Exprs.{ExprNode, expr_node_spelling, IsExprNode, HasExprNodeSpelling, expr_layer_top, expr_layer_below, expr_top, expr_nodes, expr_spelling, IsExpr, HasExprSpelling}

-- nodes
pub one_expr_node : One IsExprNode expr_node_spelling
one_expr_node (Single (Column p)) (Single (Column q)) a b fx fy e = let same = one16 p q a b fx fy (ap (drop 1) e) in (ap (λ (n : ℕ). Single (Column n)) same.0, same.1)
one_expr_node (Single (Int n)) (Single (Int m)) a b fx fy e = let same = one_value (values.Int n) (values.Int m) a b fx fy (ap (drop 1) e) in let number = same.0 in (cc, same.1)
one_expr_node (Single (Text t)) (Single (Text u)) a b fx fy e = let same = one_value (values.Text t) (values.Text u) a b fx fy (ap (drop 1) e) in let text = same.0 in (cc, same.1)
one_expr_node (Single (Int n)) (Single (Text u)) a b fx fy e = absurd (other_tag _ _ _ _ (ap (drop 1) e) refl)
one_expr_node (Single (Text t)) (Single (Int m)) a b fx fy e = absurd (other_tag _ _ _ _ (ap (drop 1) e) refl)
one_expr_node (Joined Add) (Joined Add) a b fx fy e = (refl, ap (drop 1) e)
one_expr_node (Joined Sub) (Joined Sub) a b fx fy e = (refl, ap (drop 1) e)
one_expr_node (Joined Mul) (Joined Mul) a b fx fy e = (refl, ap (drop 1) e)
one_expr_node (Joined Concat) (Joined Concat) a b fx fy e = (refl, ap (drop 1) e)
one_expr_node (Single (Column p)) (Joined Add) a b fx fy e = absurd (other_tag _ _ _ _ e refl)
one_expr_node (Single (Int n)) (Joined Add) a b fx fy e = absurd (other_tag _ _ _ _ e refl)
one_expr_node (Single (Text t)) (Joined Add) a b fx fy e = absurd (other_tag _ _ _ _ e refl)
one_expr_node (Joined Add) (Single (Column q)) a b fx fy e = absurd (other_tag _ _ _ _ e refl)
one_expr_node (Joined Sub) (Single (Column q)) a b fx fy e = absurd (other_tag _ _ _ _ e refl)
one_expr_node (Joined Mul) (Single (Column q)) a b fx fy e = absurd (other_tag _ _ _ _ e refl)
one_expr_node (Joined Concat) (Single (Column q)) a b fx fy e = absurd (other_tag _ _ _ _ e refl)
one_expr_node x y a b fx fy e = absurd (other_tag _ _ _ _ e refl)

-- a node has a byte at least
pub filled_expr_node : (node : ExprNode) → expr_node_spelling node ≡ [] → ⊥
filled_expr_node (Single (Column p)) e = absurd cc
filled_expr_node (Single (Int n)) e = absurd cc
filled_expr_node (Single (Text t)) e = absurd cc
filled_expr_node (Joined Add) e = absurd cc
filled_expr_node (Joined Sub) e = absurd cc
filled_expr_node (Joined Mul) e = absurd cc
filled_expr_node (Joined Concat) e = absurd cc

-- the expression that is a leaf
abbrev leaf_expr : ExprLeaf → Expr
leaf_expr (Column p) = exprs.Column p
leaf_expr (Int n) = exprs.Int n
leaf_expr (Text t) = exprs.Text t

-- two expressions, joined
abbrev joined_expr : ExprJoint → Expr → Expr → Expr
joined_expr Add left right = exprs.Add left right
joined_expr Sub left right = exprs.Sub left right
joined_expr Mul left right = exprs.Mul left right
joined_expr Concat left right = exprs.Concat left right

-- a leaf's node
at_leaf : (l : ExprLeaf) → expr_nodes (leaf_expr l) ≡ Single l ∷ []
unfolding expr_nodes
at_leaf (Column p) = ap expr_nodes (sym (exprs.rolls-Column p)) ∙ fold-roll-Expr (List ExprNode) (λ nodes. expr_layer_top nodes ∷ expr_layer_below nodes) (layer.Column p)
at_leaf (Int n) = ap expr_nodes (sym (exprs.rolls-Int n)) ∙ fold-roll-Expr (List ExprNode) (λ nodes. expr_layer_top nodes ∷ expr_layer_below nodes) (layer.Int n)
at_leaf (Text t) = ap expr_nodes (sym (exprs.rolls-Text t)) ∙ fold-roll-Expr (List ExprNode) (λ nodes. expr_layer_top nodes ∷ expr_layer_below nodes) (layer.Text t)

-- the nodes of two expressions, joined
at_joined : (j : ExprJoint) (left right : Expr) → expr_nodes (joined_expr j left right) ≡ Joined j ∷ expr_nodes left ++ expr_nodes right
unfolding expr_nodes
at_joined Add left right = ap expr_nodes (sym (exprs.rolls-Add left right)) ∙ fold-roll-Expr (List ExprNode) (λ nodes. expr_layer_top nodes ∷ expr_layer_below nodes) (layer.Add left right)
at_joined Sub left right = ap expr_nodes (sym (exprs.rolls-Sub left right)) ∙ fold-roll-Expr (List ExprNode) (λ nodes. expr_layer_top nodes ∷ expr_layer_below nodes) (layer.Sub left right)
at_joined Mul left right = ap expr_nodes (sym (exprs.rolls-Mul left right)) ∙ fold-roll-Expr (List ExprNode) (λ nodes. expr_layer_top nodes ∷ expr_layer_below nodes) (layer.Mul left right)
at_joined Concat left right = ap expr_nodes (sym (exprs.rolls-Concat left right)) ∙ fold-roll-Expr (List ExprNode) (λ nodes. expr_layer_top nodes ∷ expr_layer_below nodes) (layer.Concat left right)

-- an expression is a leaf or is joined of two
each_step : (P : Expr → Type 0) → ((l : ExprLeaf) → P (leaf_expr l)) → ((j : ExprJoint) (left right : Expr) → P left → P right → P (joined_expr j left right)) → (x : Expr-F Expr) (y : Expr-F ((e : Expr) × P e)) → map-Expr ((e : Expr) × P e) Expr (λ e. e.0) y ≡ x → P (roll-Expr x)
each_step P on_leaf on_joined x (layer.Column p) e = subst (λ z. P (roll-Expr z)) e (subst P (sym (exprs.rolls-Column p)) (on_leaf (Column p)))
each_step P on_leaf on_joined x (layer.Int n) e = subst (λ z. P (roll-Expr z)) e (subst P (sym (exprs.rolls-Int n)) (on_leaf (Int n)))
each_step P on_leaf on_joined x (layer.Text t) e = subst (λ z. P (roll-Expr z)) e (subst P (sym (exprs.rolls-Text t)) (on_leaf (Text t)))
each_step P on_leaf on_joined x (layer.Add l r) e = subst (λ z. P (roll-Expr z)) e (subst P (sym (exprs.rolls-Add l.0 r.0)) (on_joined Add l.0 r.0 l.1 r.1))
each_step P on_leaf on_joined x (layer.Sub l r) e = subst (λ z. P (roll-Expr z)) e (subst P (sym (exprs.rolls-Sub l.0 r.0)) (on_joined Sub l.0 r.0 l.1 r.1))
each_step P on_leaf on_joined x (layer.Mul l r) e = subst (λ z. P (roll-Expr z)) e (subst P (sym (exprs.rolls-Mul l.0 r.0)) (on_joined Mul l.0 r.0 l.1 r.1))
each_step P on_leaf on_joined x (layer.Concat l r) e = subst (λ z. P (roll-Expr z)) e (subst P (sym (exprs.rolls-Concat l.0 r.0)) (on_joined Concat l.0 r.0 l.1 r.1))

-- the node at the top of a leaf
top_leaf : (l : ExprLeaf) → expr_top (leaf_expr l) ≡ Single l
unfolding expr_top
top_leaf (Column p) = ap expr_layer_top (exprs.outs-Column p)
top_leaf (Int n) = ap expr_layer_top (exprs.outs-Int n)
top_leaf (Text t) = ap expr_layer_top (exprs.outs-Text t)

-- the node at the top of two expressions, joined
top_joined : (j : ExprJoint) (left right : Expr) → expr_top (joined_expr j left right) ≡ Joined j
unfolding expr_top
top_joined Add left right = ap expr_layer_top (exprs.outs-Add left right)
top_joined Sub left right = ap expr_layer_top (exprs.outs-Sub left right)
top_joined Mul left right = ap expr_layer_top (exprs.outs-Mul left right)
top_joined Concat left right = ap expr_layer_top (exprs.outs-Concat left right)

-- the node at the top of each kind of expression, and its nodes
pub top_column : (p : ℕ) → expr_top (exprs.Column p) ≡ Single (Column p)
top_column p = top_leaf (Column p)

-- an integer
pub top_int : (n : ℤ) → expr_top (exprs.Int n) ≡ Single (Int n)
top_int n = top_leaf (Int n)

-- a text
pub top_text : (t : List ℕ) → expr_top (exprs.Text t) ≡ Single (Text t)
top_text t = top_leaf (Text t)

-- a sum
pub top_add : (left right : Expr) → expr_top (exprs.Add left right) ≡ Joined Add
top_add = top_joined Add

-- a difference
pub top_sub : (left right : Expr) → expr_top (exprs.Sub left right) ≡ Joined Sub
top_sub = top_joined Sub

-- a product
pub top_mul : (left right : Expr) → expr_top (exprs.Mul left right) ≡ Joined Mul
top_mul = top_joined Mul

-- texts, joined
pub top_concat : (left right : Expr) → expr_top (exprs.Concat left right) ≡ Joined Concat
top_concat = top_joined Concat

-- the nodes of a column
pub nodes_column : (p : ℕ) → expr_nodes (exprs.Column p) ≡ Single (Column p) ∷ []
nodes_column p = at_leaf (Column p)

-- of an integer
pub nodes_int : (n : ℤ) → expr_nodes (exprs.Int n) ≡ Single (Int n) ∷ []
nodes_int n = at_leaf (Int n)

-- of a text
pub nodes_text : (t : List ℕ) → expr_nodes (exprs.Text t) ≡ Single (Text t) ∷ []
nodes_text t = at_leaf (Text t)

-- of a sum
pub nodes_add : (left right : Expr) → expr_nodes (exprs.Add left right) ≡ Joined Add ∷ expr_nodes left ++ expr_nodes right
nodes_add = at_joined Add

-- of a difference
pub nodes_sub : (left right : Expr) → expr_nodes (exprs.Sub left right) ≡ Joined Sub ∷ expr_nodes left ++ expr_nodes right
nodes_sub = at_joined Sub

-- of a product
pub nodes_mul : (left right : Expr) → expr_nodes (exprs.Mul left right) ≡ Joined Mul ∷ expr_nodes left ++ expr_nodes right
nodes_mul = at_joined Mul

-- of texts, joined
pub nodes_concat : (left right : Expr) → expr_nodes (exprs.Concat left right) ≡ Joined Concat ∷ expr_nodes left ++ expr_nodes right
nodes_concat = at_joined Concat

-- these facts
pub ruleset expr_views = (top_column, top_int, top_text, top_add, top_sub, top_mul, top_concat, nodes_column, nodes_int, nodes_text, nodes_add, nodes_sub, nodes_mul, nodes_concat)

-- expressions are trees
abbrev exprs_are : Trees ExprLeaf ExprJoint Expr
exprs_are = record {
  nodes = expr_nodes;
  leaf = leaf_expr;
  joined = joined_expr;
  at_leaf = at_leaf;
  at_joined = at_joined;
  each = λ P on_leaf on_joined. ind-Expr P (each_step P on_leaf on_joined);
}

-- the nodes of an expression are one tree
pub expr_forest : (e : Expr) → IsForest 1 (expr_nodes e)
expr_forest = one_tree exprs_are

-- and the first is the node at the top
pub expr_first : (e : Expr) → (rest : List ExprNode) × (expr_nodes e ≡ expr_top e ∷ rest)
expr_first = has_first exprs_are expr_top top_leaf top_joined

-- expressions of equal nodes are equal
pub same_expr : (x y : Expr) → expr_nodes x ≡ expr_nodes y → x ≡ y
same_expr = same_tree exprs_are

-- expressions
pub one_expr : One IsExpr expr_spelling
one_expr = one_nested exprs_are IsExprNode expr_node_spelling one_expr_node

-- what is taken has a spelling: nodes
again_expr_node : (x : ExprNode) → IsExprNode x → HasExprNodeSpelling x
again_expr_node (Single (Column p)) fits = fits
again_expr_node (Single (Int n)) fits = tt
again_expr_node (Single (Text t)) fits = tt
again_expr_node (Joined j) fits = tt

-- expressions
pub again_expr : (x : Expr) → IsExpr x → HasExprSpelling x
again_expr x fits = all_weaker IsExprNode HasExprNodeSpelling (expr_nodes x) again_expr_node fits
