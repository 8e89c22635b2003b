-- Chains of predicates, each of which but the last has a leaf at one side, and the next at the other.
use Rattle.std.specs.Prelude.{◌≡◌, ◌<◌, ◌+◌, false}
use Rattle.repl_types.specs.Value.{Values}
use Rattle.repl_definitions.specs.declared.predicate.Predicate.{Predicate}
use Rattle.repl_model.specs.Expressions.{is_true_of}
use Rattle.row_expr.specs.declared.predicate.ChainEnd.{ChainEnd}
use Rattle.row_expr.specs.declared.predicate.ChainEnd.TheVariants.{Known, Fork}
use Rattle.row_expr.specs.PendingPredicates.{predicate_size, is_leaf, left_predicate, pair_truth}

-- a chain that begins with this predicate ends so: it is known whether the predicate is true of the row, or
-- it is true if and only if two sides are, joined, neither of which is a leaf
abbrev pub EndsAs : Values → Predicate → ChainEnd → Type 0
EndsAs row p (Known b) = b ≡ is_true_of row p
EndsAs row p (Fork left right) = (pair_truth row left (is_true_of row right.now) ≡ is_true_of row p) × (is_leaf (left_predicate left) ≡ false) × (is_leaf right.now ≡ false) × (predicate_size (left_predicate left) + predicate_size right.now < predicate_size p)
