-- Predicates, and left sides of them that are pending: their right sides are tested first.
use Rattle.std.specs.Prelude.{ℕ, ◌+◌, Bool, true, false, ◌&&◌, ◌||◌, List, [], ◌∷◌}
use Rattle.repl_types.specs.Value.{Values}
use Rattle.repl_definitions.specs.declared.predicate.Predicate.{Predicate, Predicate-F, fold-Predicate}
use Rattle.repl_definitions.specs.declared.predicate.Predicate.TheOpen.{Compare, IsNull, IsNotNull, And, Or}
use Rattle.repl_model.specs.Expressions.{is_true_of}
use Rattle.row_expr.specs.declared.pending.LeftSide.{LeftSide}
use Rattle.row_expr.specs.declared.pending.LeftSide.TheVariants as left

-- ---- predicates

-- how many predicates a layer is made of, given how many those below it are made of
abbrev pub layer_size : Predicate-F ℕ → ℕ
layer_size (Compare left op right) = 1
layer_size (IsNull place) = 1
layer_size (IsNotNull place) = 1
layer_size (And left right) = 1 + left + right
layer_size (Or left right) = 1 + left + right

-- how many predicates a predicate is made of, itself among them
abbrev pub predicate_size : Predicate → ℕ
predicate_size = fold-Predicate ℕ layer_size

-- whether a layer has no predicates below it
abbrev pub layer_is_leaf : Predicate-F Bool → Bool
layer_is_leaf (Compare left op right) = true
layer_is_leaf (IsNull place) = true
layer_is_leaf (IsNotNull place) = true
layer_is_leaf (And left right) = false
layer_is_leaf (Or left right) = false

-- whether a predicate has no others below it
abbrev pub is_leaf : Predicate → Bool
is_leaf = fold-Predicate Bool layer_is_leaf

-- ---- left sides

-- the predicate at the left
abbrev pub left_predicate : LeftSide → Predicate
left_predicate (left.And p) = p.now
left_predicate (left.Or p) = p.now

-- whether a left side, joined with its right side, is true of a row, given whether the right side is
abbrev pub pair_truth : Values → LeftSide → Bool → Bool
pair_truth row (left.And p) b = is_true_of row p.now && b
pair_truth row (left.Or p) b = is_true_of row p.now || b

-- how many predicates left sides are made of
abbrev pub left_sizes : List LeftSide → ℕ
left_sizes [] = 0
left_sizes (side ∷ later) = predicate_size (left_predicate side) + left_sizes later

-- whether the first of pending left sides, joined with its right side, is true of a row, given whether the
-- right side of the last is: each is in the right side of the one before it
abbrev pub whole_truth : Values → List LeftSide → Bool → Bool
whole_truth row [] b = b
whole_truth row (side ∷ later) b = pair_truth row side (whole_truth row later b)
