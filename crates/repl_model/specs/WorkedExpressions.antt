-- The row of the worked expressions and predicates, and the comparisons that these are made of.
use Rattle.std.specs.Prelude.{ℕ, pos, [], ◌∷◌, codes}
use Rattle.repl_types.specs.Value.{Values}
use Rattle.repl_types.specs.declared.value.Value.{Value}
use Rattle.repl_types.specs.declared.value.Value.TheVariants.{Null, Int, Text}
use Rattle.repl_definitions.specs.declared.predicate.CompareOp.{CompareOp}
use Rattle.repl_definitions.specs.declared.predicate.Operand.TheVariants as operands
use Rattle.repl_definitions.specs.declared.predicate.Predicate.{Predicate}
use Rattle.repl_definitions.specs.declared.predicate.Predicate.TheVariants.{Compare}

-- a row of each kind of value: 5, 'ab' and NULL
abbrev pub mixed_row : Values
mixed_row = Int (pos 5) ∷ Text (codes "ab") ∷ Null ∷ []

-- the comparison of a column with a value
abbrev pub column_is : ℕ → CompareOp → Value → Predicate
column_is place op v = Compare (operands.Column place) op (operands.Value v)

-- the comparison of a value with a column
abbrev pub value_is : Value → CompareOp → ℕ → Predicate
value_is v op place = Compare (operands.Value v) op (operands.Column place)
