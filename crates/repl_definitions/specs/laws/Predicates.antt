-- Proofs that predicates have one spelling each. There is nothing to believe here.
use Rattle.std.proofs.Common.{◌≡◌, ℕ, List, [], ◌∷◌, ◌++◌, drop, refl, sym, ap, subst, ◌∙◌}
use Rattle.repl_types.specs.declared.value.Value.{Value}
use Rattle.repl_definitions.specs.declared.predicate.CompareOp.{CompareOp}
use Rattle.repl_definitions.specs.declared.predicate.CompareOp.TheVariants.{Eq, Ne, Lt, Le, Gt, Ge}
use Rattle.repl_definitions.specs.declared.predicate.Operand.{Operand}
use Rattle.repl_definitions.specs.declared.predicate.Operand.TheVariants as operands
use Rattle.repl_definitions.specs.declared.predicate.Predicate.{Predicate, Predicate-F, fold-roll-Predicate, ind-Predicate, map-Predicate, roll-Predicate}
use Rattle.repl_definitions.specs.declared.predicate.Predicate.TheOpen as layer
use Rattle.repl_definitions.specs.declared.predicate.Predicate.TheVariants as predicates
use Rattle.repl_definitions.specs.declared.nested.Root.TheVariants.{Single, Joined}
use Rattle.repl_definitions.specs.declared.predicate.PredicateLeaf.{PredicateLeaf}
use Rattle.repl_definitions.specs.declared.predicate.PredicateLeaf.TheVariants.{Compare, IsNull, IsNotNull}
use Rattle.repl_definitions.specs.declared.predicate.PredicateJoint.{PredicateJoint}
use Rattle.repl_definitions.specs.declared.predicate.PredicateJoint.TheVariants.{And, Or}
use Rattle.row_codec.specs.Spelling.{Any}
use Rattle.row_codec.specs.laws.Tags.{other_tag}
use Rattle.row_codec.specs.Takes.{One, PairFits, pair_spelling}
use Rattle.row_codec.specs.laws.Ones.{one_pair}
use Rattle.row_codec.specs.laws.Numbers.{one16}
use Rattle.row_codec.specs.laws.Values.{one_value}
use Rattle.repl_definitions.specs.Forests.{IsForest}
use Rattle.repl_definitions.specs.laws.Forests.{Trees, one_tree, same_tree, one_nested, has_first}
use Rattle.repl_types.specs.laws.Lists.{all_weaker}
use Rattle.repl_definitions.specs.Predicates.{compare_op_spelling, operand_spelling, IsOperand, HasOperandSpelling, PredicateNode, predicate_node_spelling, IsPredicateNode, HasPredicateNodeSpelling, predicate_layer_top, predicate_layer_below, predicate_top, predicate_nodes, predicate_spelling, IsPredicate, HasPredicateSpelling}

-- comparisons
pub one_compare_op : One Any compare_op_spelling
one_compare_op Eq Eq a b fx fy e = (refl, ap (drop 1) e)
one_compare_op Ne Ne a b fx fy e = (refl, ap (drop 1) e)
one_compare_op Lt Lt a b fx fy e = (refl, ap (drop 1) e)
one_compare_op Le Le a b fx fy e = (refl, ap (drop 1) e)
one_compare_op Gt Gt a b fx fy e = (refl, ap (drop 1) e)
one_compare_op Ge Ge a b fx fy e = (refl, ap (drop 1) e)
one_compare_op x y a b fx fy e = absurd (other_tag _ _ _ _ e refl)

-- operands
pub one_operand : One IsOperand operand_spelling
one_operand (operands.Column p) (operands.Column q) a b fx fy e = let same = one16 p q a b fx fy (ap (drop 1) e) in (ap (λ (n : ℕ). operands.Column n) same.0, same.1)
one_operand (operands.Value v) (operands.Value w) a b fx fy e = let same = one_value v w a b fx.1 fy.1 (ap (drop 1) e) in (ap (λ (u : Value). operands.Value u) same.0, same.1)
one_operand x y a b fx fy e = absurd (other_tag _ _ _ _ e refl)

-- two operands with a comparison between them
one_comparison : One (PairFits (PairFits IsOperand Any) IsOperand) (pair_spelling (pair_spelling operand_spelling compare_op_spelling) operand_spelling)
one_comparison = one_pair (PairFits IsOperand Any) IsOperand (pair_spelling operand_spelling compare_op_spelling) operand_spelling (one_pair IsOperand Any operand_spelling compare_op_spelling one_operand one_compare_op) one_operand

-- nodes
pub one_predicate_node : One IsPredicateNode predicate_node_spelling
one_predicate_node (Single (Compare l o r)) (Single (Compare l' o' r')) a b fx fy e =
    let same = one_comparison ((l, o), r) ((l', o'), r') a b ((fx.0, fx.1), fx.2) ((fy.0, fy.1), fy.2) (ap (drop 1) e) in
    (ap (λ (p : (Operand × CompareOp) × Operand). Single (Compare p.0.0 p.0.1 p.1)) same.0, same.1)
one_predicate_node (Single (IsNull p)) (Single (IsNull q)) a b fx fy e = let same = one16 p q a b fx fy (ap (drop 1) e) in (ap (λ (n : ℕ). Single (IsNull n)) same.0, same.1)
one_predicate_node (Single (IsNotNull p)) (Single (IsNotNull q)) a b fx fy e = let same = one16 p q a b fx fy (ap (drop 1) e) in (ap (λ (n : ℕ). Single (IsNotNull n)) same.0, same.1)
one_predicate_node (Joined And) (Joined And) a b fx fy e = (refl, ap (drop 1) e)
one_predicate_node (Joined Or) (Joined Or) a b fx fy e = (refl, ap (drop 1) e)
one_predicate_node (Single (Compare l o r)) (Joined And) a b fx fy e = absurd (other_tag _ _ _ _ e refl)
one_predicate_node (Single (IsNull p)) (Joined And) a b fx fy e = absurd (other_tag _ _ _ _ e refl)
one_predicate_node (Single (IsNotNull p)) (Joined And) a b fx fy e = absurd (other_tag _ _ _ _ e refl)
one_predicate_node (Joined And) (Single (IsNull q)) a b fx fy e = absurd (other_tag _ _ _ _ e refl)
one_predicate_node (Joined Or) (Single (IsNull q)) a b fx fy e = absurd (other_tag _ _ _ _ e refl)
one_predicate_node x y a b fx fy e = absurd (other_tag _ _ _ _ e refl)

-- a node has a byte at least
pub filled_predicate_node : (node : PredicateNode) → predicate_node_spelling node ≡ [] → ⊥
filled_predicate_node (Single (Compare l o r)) e = absurd cc
filled_predicate_node (Single (IsNull p)) e = absurd cc
filled_predicate_node (Single (IsNotNull p)) e = absurd cc
filled_predicate_node (Joined And) e = absurd cc
filled_predicate_node (Joined Or) e = absurd cc

-- the predicate that is a leaf
abbrev leaf_predicate : PredicateLeaf → Predicate
leaf_predicate (Compare l o r) = predicates.Compare l o r
leaf_predicate (IsNull p) = predicates.IsNull p
leaf_predicate (IsNotNull p) = predicates.IsNotNull p

-- two predicates, joined
abbrev joined_predicate : PredicateJoint → Predicate → Predicate → Predicate
joined_predicate And left right = predicates.And left right
joined_predicate Or left right = predicates.Or left right

-- a leaf's node
at_leaf : (l : PredicateLeaf) → predicate_nodes (leaf_predicate l) ≡ Single l ∷ []
unfolding predicate_nodes
at_leaf (Compare l o r) = ap predicate_nodes (sym (predicates.rolls-Compare l o r)) ∙ fold-roll-Predicate (List PredicateNode) (λ nodes. predicate_layer_top nodes ∷ predicate_layer_below nodes) (layer.Compare l o r)
at_leaf (IsNull p) = ap predicate_nodes (sym (predicates.rolls-IsNull p)) ∙ fold-roll-Predicate (List PredicateNode) (λ nodes. predicate_layer_top nodes ∷ predicate_layer_below nodes) (layer.IsNull p)
at_leaf (IsNotNull p) = ap predicate_nodes (sym (predicates.rolls-IsNotNull p)) ∙ fold-roll-Predicate (List PredicateNode) (λ nodes. predicate_layer_top nodes ∷ predicate_layer_below nodes) (layer.IsNotNull p)

-- the nodes of two predicates, joined
at_joined : (j : PredicateJoint) (left right : Predicate) → predicate_nodes (joined_predicate j left right) ≡ Joined j ∷ predicate_nodes left ++ predicate_nodes right
unfolding predicate_nodes
at_joined And left right = ap predicate_nodes (sym (predicates.rolls-And left right)) ∙ fold-roll-Predicate (List PredicateNode) (λ nodes. predicate_layer_top nodes ∷ predicate_layer_below nodes) (layer.And left right)
at_joined Or left right = ap predicate_nodes (sym (predicates.rolls-Or left right)) ∙ fold-roll-Predicate (List PredicateNode) (λ nodes. predicate_layer_top nodes ∷ predicate_layer_below nodes) (layer.Or left right)

-- a predicate is a leaf or is joined of two
each_step : (P : Predicate → Type 0) → ((l : PredicateLeaf) → P (leaf_predicate l)) → ((j : PredicateJoint) (left right : Predicate) → P left → P right → P (joined_predicate j left right)) → (x : Predicate-F Predicate) (y : Predicate-F ((e : Predicate) × P e)) → map-Predicate ((e : Predicate) × P e) Predicate (λ e. e.0) y ≡ x → P (roll-Predicate x)
each_step P on_leaf on_joined x (layer.Compare l o r) e = subst (λ z. P (roll-Predicate z)) e (subst P (sym (predicates.rolls-Compare l o r)) (on_leaf (Compare l o r)))
each_step P on_leaf on_joined x (layer.IsNull p) e = subst (λ z. P (roll-Predicate z)) e (subst P (sym (predicates.rolls-IsNull p)) (on_leaf (IsNull p)))
each_step P on_leaf on_joined x (layer.IsNotNull p) e = subst (λ z. P (roll-Predicate z)) e (subst P (sym (predicates.rolls-IsNotNull p)) (on_leaf (IsNotNull p)))
each_step P on_leaf on_joined x (layer.And l r) e = subst (λ z. P (roll-Predicate z)) e (subst P (sym (predicates.rolls-And l.0 r.0)) (on_joined And l.0 r.0 l.1 r.1))
each_step P on_leaf on_joined x (layer.Or l r) e = subst (λ z. P (roll-Predicate z)) e (subst P (sym (predicates.rolls-Or l.0 r.0)) (on_joined Or l.0 r.0 l.1 r.1))

-- the node at the top of a leaf
top_leaf : (l : PredicateLeaf) → predicate_top (leaf_predicate l) ≡ Single l
unfolding predicate_top
top_leaf (Compare l o r) = ap predicate_layer_top (predicates.outs-Compare l o r)
top_leaf (IsNull p) = ap predicate_layer_top (predicates.outs-IsNull p)
top_leaf (IsNotNull p) = ap predicate_layer_top (predicates.outs-IsNotNull p)

-- the node at the top of two predicates, joined
top_joined : (j : PredicateJoint) (left right : Predicate) → predicate_top (joined_predicate j left right) ≡ Joined j
unfolding predicate_top
top_joined And left right = ap predicate_layer_top (predicates.outs-And left right)
top_joined Or left right = ap predicate_layer_top (predicates.outs-Or left right)

-- the node at the top of each kind of predicate, and its nodes
pub top_compare : (l : Operand) (o : CompareOp) (r : Operand) → predicate_top (predicates.Compare l o r) ≡ Single (Compare l o r)
top_compare l o r = top_leaf (Compare l o r)

-- a test for NULL
pub top_null : (p : ℕ) → predicate_top (predicates.IsNull p) ≡ Single (IsNull p)
top_null p = top_leaf (IsNull p)

-- a test for a value
pub top_not_null : (p : ℕ) → predicate_top (predicates.IsNotNull p) ≡ Single (IsNotNull p)
top_not_null p = top_leaf (IsNotNull p)

-- a conjunction
pub top_and : (left right : Predicate) → predicate_top (predicates.And left right) ≡ Joined And
top_and = top_joined And

-- a disjunction
pub top_or : (left right : Predicate) → predicate_top (predicates.Or left right) ≡ Joined Or
top_or = top_joined Or

-- the nodes of a comparison
pub nodes_compare : (l : Operand) (o : CompareOp) (r : Operand) → predicate_nodes (predicates.Compare l o r) ≡ Single (Compare l o r) ∷ []
nodes_compare l o r = at_leaf (Compare l o r)

-- of a test for NULL
pub nodes_null : (p : ℕ) → predicate_nodes (predicates.IsNull p) ≡ Single (IsNull p) ∷ []
nodes_null p = at_leaf (IsNull p)

-- of a test for a value
pub nodes_not_null : (p : ℕ) → predicate_nodes (predicates.IsNotNull p) ≡ Single (IsNotNull p) ∷ []
nodes_not_null p = at_leaf (IsNotNull p)

-- of a conjunction
pub nodes_and : (left right : Predicate) → predicate_nodes (predicates.And left right) ≡ Joined And ∷ predicate_nodes left ++ predicate_nodes right
nodes_and = at_joined And

-- of a disjunction
pub nodes_or : (left right : Predicate) → predicate_nodes (predicates.Or left right) ≡ Joined Or ∷ predicate_nodes left ++ predicate_nodes right
nodes_or = at_joined Or

-- these facts
pub ruleset predicate_views = (top_compare, top_null, top_not_null, top_and, top_or, nodes_compare, nodes_null, nodes_not_null, nodes_and, nodes_or)

-- predicates are trees
abbrev predicates_are : Trees PredicateLeaf PredicateJoint Predicate
predicates_are = record {
  nodes = predicate_nodes;
  leaf = leaf_predicate;
  joined = joined_predicate;
  at_leaf = at_leaf;
  at_joined = at_joined;
  each = λ P on_leaf on_joined. ind-Predicate P (each_step P on_leaf on_joined);
}

-- the nodes of a predicate are one tree
pub predicate_forest : (p : Predicate) → IsForest 1 (predicate_nodes p)
predicate_forest = one_tree predicates_are

-- and the first is the node at the top
pub predicate_first : (p : Predicate) → (rest : List PredicateNode) × (predicate_nodes p ≡ predicate_top p ∷ rest)
predicate_first = has_first predicates_are predicate_top top_leaf top_joined

-- predicates of equal nodes are equal
pub same_predicate : (x y : Predicate) → predicate_nodes x ≡ predicate_nodes y → x ≡ y
same_predicate = same_tree predicates_are

-- predicates
pub one_predicate : One IsPredicate predicate_spelling
one_predicate = one_nested predicates_are IsPredicateNode predicate_node_spelling one_predicate_node

-- what is taken has a spelling: operands
pub again_operand : (x : Operand) → IsOperand x → HasOperandSpelling x
again_operand (operands.Column p) fits = fits
again_operand (operands.Value v) fits = fits.0

-- nodes
again_predicate_node : (x : PredicateNode) → IsPredicateNode x → HasPredicateNodeSpelling x
again_predicate_node (Single (Compare l o r)) fits = (again_operand l fits.0, again_operand r fits.2)
again_predicate_node (Single (IsNull p)) fits = fits
again_predicate_node (Single (IsNotNull p)) fits = fits
again_predicate_node (Joined j) fits = tt

-- predicates
pub again_predicate : (x : Predicate) → IsPredicate x → HasPredicateSpelling x
again_predicate x fits = all_weaker IsPredicateNode HasPredicateNodeSpelling (predicate_nodes x) again_predicate_node fits
