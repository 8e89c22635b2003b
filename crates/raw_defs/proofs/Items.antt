-- Items of an array, one by one.
use Rattle.std.proofs.Common.{◌≡◌, ◌==◌, ℕ, not, List, [], ◌∷◌, length, arith}
use Rattle.std.proofs.lemmas.Bool.Decides.{nat_tests}
use Rattle.toml.specs.View.{items_view}
use Rattle.toml.specs.declared.value.Value.{Value}
use Rattle.raw_defs.specs.Shape.{has_some}

-- values whose count isn't 0 are at least one item
pub has_some-view : (vs : List Value) (count : ℕ) → length vs ≡ count → not (count == 0) ≡ has_some (items_view vs)
has_some-view [] count is = grind (arith, nat_tests)
has_some-view (v ∷ vs) count is = grind (arith, nat_tests)
