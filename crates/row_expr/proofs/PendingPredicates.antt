-- How large predicates are, and the truth of pending left sides.
use Rattle.std.proofs.Common.{◌≡◌, ℕ, ◌+◌, Bool, List, [], ◌∷◌, ◌++◌, length, length-append, refl, sym, ap, ◌∙◌, arith}
use Rattle.repl_model.specs.Words.{Values, Predicate, fold-roll-Predicate}
use Rattle.repl_definitions.specs.declared.predicate.Predicate.TheOpen as layer
use Rattle.repl_definitions.specs.declared.predicate.Predicate.TheVariants as predicates
use Rattle.row_expr.specs.declared.pending.LeftSide.{LeftSide}
use Rattle.row_expr.specs.PendingPredicates.{layer_size, predicate_size, left_predicate, pair_truth, left_sizes, whole_truth}

-- two predicates and the one that joins them
pub predicate_size-and : (left right : Predicate) → predicate_size (predicates.And left right) ≡ 1 + predicate_size left + predicate_size right
predicate_size-and left right = ap predicate_size (sym (predicates.rolls-And left right)) ∙ fold-roll-Predicate ℕ layer_size (layer.And left right)

-- the left side that was pushed last is joined with its right side first
pub whole_truth-push : (row : Values) (sides : List LeftSide) (side : LeftSide) (b : Bool) → whole_truth row (sides ++ side ∷ []) b ≡ whole_truth row sides (pair_truth row side b)
whole_truth-push row [] side b = refl
whole_truth-push row (first ∷ sides) side b = ap (pair_truth row first) (whole_truth-push row sides side b)

-- one more left side adds the predicates that it is made of
pub left_sizes-push : (sides : List LeftSide) (side : LeftSide) → left_sizes (sides ++ side ∷ []) ≡ left_sizes sides + predicate_size (left_predicate side)
left_sizes-push [] side = omega arith
left_sizes-push (first ∷ sides) side = omega (arith, left_sizes-push sides side)

-- the truth of all is that of those before the last, given the truth of the last with its right side
pub whole_truth-last : (row : Values) (all sides : List LeftSide) (side : LeftSide) (b whole : Bool) → all ≡ sides ++ side ∷ [] → pair_truth row side b ≡ whole → whole_truth row sides whole ≡ whole_truth row all b
whole_truth-last row all sides side b whole split joined = sym (ap (λ (s : List LeftSide). whole_truth row s b) split ∙ whole_truth-push row sides side b ∙ ap (whole_truth row sides) joined)

-- those before the last are one fewer, and made of fewer predicates
pub left_sizes-last : (all sides : List LeftSide) (side : LeftSide) → all ≡ sides ++ side ∷ [] → (length sides + 1 ≡ length all) × (left_sizes sides + predicate_size (left_predicate side) ≡ left_sizes all)
left_sizes-last all sides side split = (omega (arith, ap length split, length-append sides (side ∷ [])), omega (arith, ap left_sizes split, left_sizes-push sides side))
