-- The spellings of predicates.
use Rattle.std.specs.Prelude.{ℕ, List, [], ◌∷◌, ◌++◌}
use Rattle.repl_types.specs.ValueText.{IsValue}
use Rattle.repl_types.specs.declared.value.Value.{Value}
use Rattle.repl_types.specs.declared.value.Value.TheVariants as values
use Rattle.repl_definitions.specs.declared.predicate.CompareOp.{CompareOp}
use Rattle.repl_definitions.specs.declared.predicate.CompareOp.TheVariants.{Eq, Ne, Lt, Le, Gt, Ge}
use Rattle.repl_definitions.specs.declared.predicate.Operand.{Operand}
use Rattle.repl_definitions.specs.declared.predicate.Operand.TheVariants as operands
use Rattle.repl_definitions.specs.declared.predicate.Predicate.{Predicate, Predicate-F, out-Predicate, fold-Predicate}
use Rattle.repl_definitions.specs.declared.predicate.Predicate.TheOpen as layer
use Rattle.repl_definitions.specs.declared.nested.Root.{Root}
use Rattle.repl_definitions.specs.declared.nested.Root.TheVariants.{Single, Joined}
use Rattle.repl_definitions.specs.declared.predicate.PredicateLeaf.{PredicateLeaf}
use Rattle.repl_definitions.specs.declared.predicate.PredicateLeaf.TheVariants.{Compare, IsNull, IsNotNull}
use Rattle.repl_definitions.specs.declared.predicate.PredicateJoint.{PredicateJoint}
use Rattle.repl_definitions.specs.declared.predicate.PredicateJoint.TheVariants.{And, Or}
use Rattle.row_codec.specs.Spelling.{Any, b16, Is16, value_spelling}
use Rattle.repl_definitions.specs.Forests.{nodes_spelling, NodesFit}

-- ---- comparisons

-- 0x01 to 0x06 for =, <>, <, <=, > and >=
abbrev pub compare_op_spelling : CompareOp → List ℕ
compare_op_spelling Eq = 0x01 ∷ []
compare_op_spelling Ne = 0x02 ∷ []
compare_op_spelling Lt = 0x03 ∷ []
compare_op_spelling Le = 0x04 ∷ []
compare_op_spelling Gt = 0x05 ∷ []
compare_op_spelling Ge = 0x06 ∷ []

-- 0x30 and a column's place, or 0x31 and a value
abbrev pub operand_spelling : Operand → List ℕ
operand_spelling (operands.Column place) = 0x30 ∷ b16 place
operand_spelling (operands.Value value) = 0x31 ∷ value_spelling value

-- the values that may be literals: all but NULL
abbrev pub IsLiteral : Value → Type 0
IsLiteral values.Null = ⊥
IsLiteral (values.Int n) = Unit {0}
IsLiteral (values.Text t) = Unit {0}

-- the operands that have a spelling
abbrev pub HasOperandSpelling : Operand → Type 0
HasOperandSpelling (operands.Column place) = Is16 place
HasOperandSpelling (operands.Value value) = IsLiteral value

-- the operands that have a spelling, and whose literal is a value
abbrev pub IsOperand : Operand → Type 0
IsOperand (operands.Column place) = Is16 place
IsOperand (operands.Value value) = IsLiteral value × IsValue value

-- ---- nodes

-- a comparison, a test of a column for NULL, or what joins two predicates
abbrev pub PredicateNode : Type 0
PredicateNode = Root PredicateLeaf PredicateJoint

-- 0x20 and a comparison, 0x21 and a place for IS NULL, 0x22 and a place for IS NOT NULL, 0x23 for AND,
-- 0x24 for OR
abbrev pub predicate_node_spelling : PredicateNode → List ℕ
predicate_node_spelling (Single (Compare left op right)) = 0x20 ∷ operand_spelling left ++ compare_op_spelling op ++ operand_spelling right
predicate_node_spelling (Single (IsNull place)) = 0x21 ∷ b16 place
predicate_node_spelling (Single (IsNotNull place)) = 0x22 ∷ b16 place
predicate_node_spelling (Joined And) = 0x23 ∷ []
predicate_node_spelling (Joined Or) = 0x24 ∷ []

-- the nodes that have a spelling
abbrev pub HasPredicateNodeSpelling : PredicateNode → Type 0
HasPredicateNodeSpelling (Single (Compare left op right)) = HasOperandSpelling left × HasOperandSpelling right
HasPredicateNodeSpelling (Single (IsNull place)) = Is16 place
HasPredicateNodeSpelling (Single (IsNotNull place)) = Is16 place
HasPredicateNodeSpelling (Joined joint) = Unit {0}

-- the nodes that have a spelling, and whose literals are values
abbrev pub IsPredicateNode : PredicateNode → Type 0
IsPredicateNode (Single (Compare left op right)) = IsOperand left × Any op × IsOperand right
IsPredicateNode (Single (IsNull place)) = Is16 place
IsPredicateNode (Single (IsNotNull place)) = Is16 place
IsPredicateNode (Joined joint) = Unit {0}

-- ---- predicates

-- the node at the top of a layer of a predicate
abbrev pub predicate_layer_top : {X : Type 0} → Predicate-F X → PredicateNode
predicate_layer_top (layer.Compare left op right) = Single (Compare left op right)
predicate_layer_top (layer.IsNull place) = Single (IsNull place)
predicate_layer_top (layer.IsNotNull place) = Single (IsNotNull place)
predicate_layer_top (layer.And left right) = Joined And
predicate_layer_top (layer.Or left right) = Joined Or

-- the nodes below the top of a layer of a predicate: those at the left, then those at the right
abbrev pub predicate_layer_below : Predicate-F (List PredicateNode) → List PredicateNode
predicate_layer_below (layer.Compare left op right) = []
predicate_layer_below (layer.IsNull place) = []
predicate_layer_below (layer.IsNotNull place) = []
predicate_layer_below (layer.And left right) = left ++ right
predicate_layer_below (layer.Or left right) = left ++ right

-- the node at the top of a predicate
unfoldable pub predicate_top : Predicate → PredicateNode
predicate_top p = predicate_layer_top (out-Predicate p)

-- the nodes of a predicate, the top first
unfoldable pub predicate_nodes : Predicate → List PredicateNode
predicate_nodes = fold-Predicate (List PredicateNode) (λ nodes. predicate_layer_top nodes ∷ predicate_layer_below nodes)

-- a predicate is spelled node after node
abbrev pub predicate_spelling : Predicate → List ℕ
predicate_spelling p = nodes_spelling predicate_node_spelling (predicate_nodes p)

-- the predicates that have a spelling, and whose literals are values
abbrev pub IsPredicate : Predicate → Type 0
IsPredicate p = NodesFit IsPredicateNode (predicate_nodes p)

-- the predicates that have a spelling
abbrev pub HasPredicateSpelling : Predicate → Type 0
HasPredicateSpelling p = NodesFit HasPredicateNodeSpelling (predicate_nodes p)
