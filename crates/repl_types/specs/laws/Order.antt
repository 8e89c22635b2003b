-- The orders of values and of keys.
use Rattle.std.proofs.Common.{◌≡◌, refl, ap, subst}
use Rattle.std.specs.Cmp.{IsTotalOrder}
use Rattle.std.specs.FinMap.{IsAntisymmetric, int_cmp-IsAntisymmetric, nat_cmp-IsAntisymmetric, slice_cmp-IsAntisymmetric}
use Rattle.std.specs.Cmp.Lexicographic.{lists_total, slice_cmp}
use Rattle.repl_types.specs.contracts.value.ValueOrd.TheImpl.{cmp-value}
use Rattle.repl_types.specs.contracts.value.ValueOrd.TheImpl.Laws.{total-law}
use Rattle.repl_types.specs.declared.value.Value.{Value}
use Rattle.repl_types.specs.declared.value.Value.TheVariants.{Null, Int, Text}
use Rattle.repl_types.specs.Value.{value_cmp, key_cmp}

-- the derived order is this one
derived : (v w : Value) → cmp-value.it v w ≡ value_cmp v w
derived Null Null = refl
derived Null (Int n) = refl
derived Null (Text t) = refl
derived (Int n) Null = refl
derived (Int n) (Int m) = refl
derived (Int n) (Text t) = refl
derived (Text t) Null = refl
derived (Text t) (Int n) = refl
derived (Text t) (Text u) = refl

-- values are in a total order
pub value_cmp_total : IsTotalOrder value_cmp
value_cmp_total = subst IsTotalOrder (λ i v w. derived v w i) total-law

-- keys are in a total order
pub key_cmp_total : IsTotalOrder key_cmp
key_cmp_total = lists_total value_cmp_total

-- only equal values tie
pub exact_value : IsAntisymmetric value_cmp
exact_value Null Null e = refl
exact_value Null (Int n) e = absurd cc
exact_value Null (Text t) e = absurd cc
exact_value (Int n) Null e = absurd cc
exact_value (Int n) (Int m) e = ap Int (int_cmp-IsAntisymmetric n m e)
exact_value (Int n) (Text t) e = absurd cc
exact_value (Text t) Null e = absurd cc
exact_value (Text t) (Int n) e = absurd cc
exact_value (Text t) (Text u) e = ap Text (slice_cmp-IsAntisymmetric nat_cmp-IsAntisymmetric t u e)

-- only equal keys tie
pub exact_key : IsAntisymmetric key_cmp
exact_key = slice_cmp-IsAntisymmetric exact_value

-- the order that the program compares keys by is this one
pub derived_key_cmp : slice_cmp cmp-value.it ≡ key_cmp
derived_key_cmp = ap slice_cmp (λ i v w. derived v w i)
