-- Values of expressions and truths of predicates, worked out by hand.
use Rattle.std.specs.Prelude.{◌≡◌, ℕ, ℤ, pos, neg_ℤ, Bool, true, false, not, codes, List, [], ◌∷◌, ◌++◌, map, replicate}
use Rattle.std.proofs.Common.{refl}
use Rattle.std.proofs.Math.Utf8.{encode}
use Rattle.std.specs.List.{flat_map, list_all}
use Rattle.std.specs.Str.{encode_utf8_all}
use Rattle.repl_types.specs.Value.{Values}
use Rattle.repl_types.specs.declared.value.Value.{Value}
use Rattle.repl_types.specs.declared.value.Value.TheVariants.{Null, Int, Text}
use Rattle.repl_definitions.specs.declared.expr.Expr.{Expr}
use Rattle.repl_definitions.specs.declared.expr.Expr.TheVariants.{Add, Sub, Mul, Concat}
use Rattle.repl_definitions.specs.declared.expr.Expr.TheVariants as exprs
use Rattle.repl_definitions.specs.declared.predicate.CompareOp.{CompareOp}
use Rattle.repl_definitions.specs.declared.predicate.CompareOp.TheVariants.{Eq, Ne, Lt, Le, Gt, Ge}
use Rattle.repl_definitions.specs.declared.predicate.Operand.{Operand}
use Rattle.repl_definitions.specs.declared.predicate.Operand.TheVariants.{Column}
use Rattle.repl_definitions.specs.declared.predicate.Operand.TheVariants as operands
use Rattle.repl_definitions.specs.declared.predicate.Predicate.{Predicate}
use Rattle.repl_definitions.specs.declared.predicate.Predicate.TheVariants.{Compare, IsNull, IsNotNull, And, Or}
use Rattle.repl_model.specs.laws.Trees.{by_nodes}
use Rattle.repl_model.specs.Expressions.{is_null, value_of, is_true_of}

-- the row of 5, NULL and 'a'
abbrev mixed_row : Values
mixed_row = Int (pos 5) ∷ Null ∷ Text (codes "a") ∷ []

-- ---- expressions

-- the greatest integer of 64 bits
abbrev greatest : ℤ
greatest = pos 9_223_372_036_854_775_807

-- the least integer of 64 bits
abbrev least : ℤ
least = neg_ℤ (pos 9_223_372_036_854_775_808)

-- each operation with the two integers beside it has the value at the end of its row
abbrev OfIntegers : List (ℤ × (Expr → Expr → Expr) × ℤ × Value) → Type 0
OfIntegers rows = map (λ row. value_of mixed_row (row.1 (exprs.Int row.0) (exprs.Int row.2))) rows ≡ map (λ row. row.3) rows

pub an_integer_that_64_bits_do_not_hold_is_null : OfIntegers (
    (pos 9_223_372_036_854_775_806, Add, pos 1, Int greatest)
    ∷ (greatest, Add, pos 1, Null)
    ∷ (least, Add, neg_ℤ (pos 1), Null)
    ∷ (least, Add, greatest, Int (neg_ℤ (pos 1)))
    ∷ (pos 7, Sub, pos 2, Int (pos 5))
    ∷ (neg_ℤ (pos 9_223_372_036_854_775_807), Sub, pos 1, Int least)
    ∷ (least, Sub, pos 1, Null)
    ∷ (neg_ℤ (pos 1), Sub, least, Int greatest)
    ∷ (pos 0, Sub, least, Null)
    ∷ (pos 3_037_000_499, Mul, pos 3_037_000_499, Int (pos 9_223_372_030_926_249_001))
    ∷ (pos 3_037_000_500, Mul, pos 3_037_000_500, Null)
    ∷ (pos 4_611_686_018_427_387_904, Mul, neg_ℤ (pos 2), Int least)
    ∷ (pos 4_611_686_018_427_387_904, Mul, pos 2, Null)
    ∷ (least, Mul, neg_ℤ (pos 1), Null)
    ∷ [])
an_integer_that_64_bits_do_not_hold_is_null = simp by_nodes refl

-- the piece, so many times
abbrev repeated : List ℕ → ℕ → List ℕ
repeated piece count = flat_map (λ again. again) (replicate count piece)

-- the piece so many times, and after these so many times more
abbrev pieces : List ℕ → ℕ → ℕ → Expr
pieces piece left right = Concat (exprs.Text (repeated piece left)) (exprs.Text (repeated piece right))

-- the piece that comes first in each row, as often as the two numbers beside it say, has the value at the end of
-- the row
abbrev OfPieces : List (List ℕ × ℕ × ℕ × Value) → Type 0
OfPieces rows = map (λ row. value_of mixed_row (pieces row.0 row.1 row.2)) rows ≡ map (λ row. row.3) rows

-- a letter of two bytes
abbrev sharp_s : List ℕ
sharp_s = encode_utf8_all (codes "ß")

pub a_text_of_over_1000_bytes_is_null : OfPieces (
    (codes "x", 600, 400, Text (repeated (codes "x") 1000))
    ∷ (codes "x", 600, 401, Null)
    ∷ (sharp_s, 250, 250, Text (repeated sharp_s 500))
    ∷ (sharp_s, 250, 251, Null)
    ∷ [])
unfolding encode
a_text_of_over_1000_bytes_is_null = simp by_nodes refl

pub a_text_is_put_after_another : value_of mixed_row (Concat (exprs.Column 2) (exprs.Text (codes "b"))) ≡ Text (codes "ab")
a_text_is_put_after_another = simp by_nodes refl

-- the places of an integer and NULL, of a text and NULL, and of an integer and a text, each in both orders
abbrev unlike : List (ℕ × ℕ)
unlike = (0, 1) ∷ (1, 0) ∷ (2, 1) ∷ (1, 2) ∷ (0, 2) ∷ (2, 0) ∷ []

-- whether the operation is NULL for the columns at each two places
abbrev is_null_for : (Expr → Expr → Expr) → List (ℕ × ℕ) → Bool
is_null_for joined = list_all (λ pair. is_null (value_of mixed_row (joined (exprs.Column pair.0) (exprs.Column pair.1))))

pub an_operation_with_null_or_with_another_kind_is_null :
    (is_null_for Add (unlike ++ (2, 2) ∷ []) ≡ true)
    × (is_null_for Sub (unlike ++ (2, 2) ∷ []) ≡ true)
    × (is_null_for Mul (unlike ++ (2, 2) ∷ []) ≡ true)
    × (is_null_for Concat (unlike ++ (0, 0) ∷ []) ≡ true)
an_operation_with_null_or_with_another_kind_is_null = (simp by_nodes refl, simp by_nodes refl, simp by_nodes refl, simp by_nodes refl)

pub a_column_that_the_row_lacks_is_null :
    (value_of mixed_row (exprs.Column 3) ≡ Null)
    × (is_true_of mixed_row (IsNull 3) ≡ true)
    × (is_true_of mixed_row (IsNotNull 3) ≡ false)
    × (is_true_of mixed_row (IsNull 0) ≡ false)
a_column_that_the_row_lacks_is_null = (simp by_nodes refl, simp by_nodes refl, simp by_nodes refl, simp by_nodes refl)

-- ---- predicates

-- the six comparisons
abbrev compare_ops : List CompareOp
compare_ops = Eq ∷ Ne ∷ Lt ∷ Le ∷ Gt ∷ Ge ∷ []

-- whether each of the six is true of column 0, which is 5, and the operand
abbrev truths_of_5_and : Operand → List Bool
truths_of_5_and right = map (λ op. is_true_of mixed_row (Compare (Column 0) op right)) compare_ops

pub values_are_compared_in_their_order :
    (truths_of_5_and (operands.Value (Int (pos 6))) ≡ false ∷ true ∷ true ∷ true ∷ false ∷ false ∷ [])
    × (truths_of_5_and (operands.Value (Int (pos 5))) ≡ true ∷ false ∷ false ∷ true ∷ false ∷ true ∷ [])
    × (truths_of_5_and (operands.Value (Int (pos 4))) ≡ false ∷ true ∷ false ∷ false ∷ true ∷ true ∷ [])
    × (truths_of_5_and (Column 2) ≡ false ∷ true ∷ true ∷ true ∷ false ∷ false ∷ [])
values_are_compared_in_their_order = (simp by_nodes refl, simp by_nodes refl, simp by_nodes refl, simp by_nodes refl)

-- whether none of the six is true of the columns at two places
abbrev none_is_true : ℕ × ℕ → Bool
none_is_true pair = list_all (λ op. not (is_true_of mixed_row (Compare (Column pair.0) op (Column pair.1)))) compare_ops

pub no_comparison_with_null_is_true : list_all none_is_true ((0, 1) ∷ (1, 0) ∷ (2, 1) ∷ (1, 2) ∷ (1, 1) ∷ (3, 0) ∷ []) ≡ true
no_comparison_with_null_is_true = simp by_nodes refl

-- a predicate that is true of the row, or is not
abbrev leaf : Bool → Predicate
leaf true = IsNull 1
leaf false = IsNotNull 1

-- the two truths that come first in each row are the third if they are joined by `and`, and the last if by `or`
abbrev AreJoined : List (Bool × Bool × Bool × Bool) → Type 0
AreJoined rows =
    (map (λ row. is_true_of mixed_row (And (leaf row.0) (leaf row.1))) rows ≡ map (λ row. row.2) rows)
    × (map (λ row. is_true_of mixed_row (Or (leaf row.0) (leaf row.1))) rows ≡ map (λ row. row.3) rows)

pub and_wants_both_sides_and_or_wants_one : AreJoined (
    (true, true, true, true)
    ∷ (true, false, false, true)
    ∷ (false, true, false, true)
    ∷ (false, false, false, false)
    ∷ [])
and_wants_both_sides_and_or_wants_one = (simp by_nodes refl, simp by_nodes refl)
