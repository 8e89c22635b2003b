-- What operators make of values.
use Rattle.std.specs.Prelude.{◌+ℤ◌, ◌-ℤ◌, ◌*ℤ◌}
use Rattle.repl_types.specs.declared.value.Value.{Value}
use Rattle.repl_model.specs.Expressions.{of_integers, of_texts}
use Rattle.row_expr.specs.declared.operation.Operator.{Operator}
use Rattle.row_expr.specs.declared.operation.Operator.TheVariants.{Add, Sub, Mul, Concat}

-- what an operator makes of two values
abbrev pub result_of : Operator → Value → Value → Value
result_of Add = of_integers ◌+ℤ◌
result_of Sub = of_integers ◌-ℤ◌
result_of Mul = of_integers ◌*ℤ◌
result_of Concat = of_texts
