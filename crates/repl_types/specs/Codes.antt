-- Values as plain data, so that a finite map of rows may be what a clause sees of a type.
use Rattle.std.specs.Prelude.{◌≡◌, ℕ, ℤ, List, ◌⊎◌, refl}
use Rattle.std.proofs.Common.{inl, inr}
use Rattle.std.specs.Coded.{Coded, code_by, coded⊎, coded_ℤ, coded_ℕ, coded_list}
use base.Stored.{coded_unit}
use Rattle.repl_types.specs.declared.value.Value.{Value}
use Rattle.repl_types.specs.declared.value.Value.TheVariants.{Null, Int, Text}

-- which variant a value is, and what it holds
abbrev pub variant_of : Value → Unit {0} ⊎ (ℤ ⊎ List ℕ)
variant_of Null = inl tt
variant_of (Int n) = inr (inl n)
variant_of (Text t) = inr (inr t)

-- the value of such a variant
abbrev pub value_of_variant : Unit {0} ⊎ (ℤ ⊎ List ℕ) → Value
value_of_variant (inl _) = Null
value_of_variant (inr (inl n)) = Int n
value_of_variant (inr (inr t)) = Text t

-- a value that is taken apart and put together again is the same
pub value_of_variant-variant_of : (v : Value) → value_of_variant (variant_of v) ≡ v
value_of_variant-variant_of Null = refl
value_of_variant-variant_of (Int n) = refl
value_of_variant-variant_of (Text t) = refl

-- a value as plain data
abbrev pub coded_value : Coded Value
coded_value = code_by (Unit {0} ⊎ (ℤ ⊎ List ℕ)) (coded⊎ coded_unit (coded⊎ coded_ℤ (coded_list coded_ℕ))) variant_of value_of_variant value_of_variant-variant_of

-- a row as plain data
abbrev pub coded_row : Coded (List Value)
coded_row = coded_list coded_value
