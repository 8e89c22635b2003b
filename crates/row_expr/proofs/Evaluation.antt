-- The value of operations that wait for a side.
use Rattle.std.proofs.Common.{◌≡◌, ◌+◌, List, [], ◌∷◌, ◌++◌, refl, sym, ap, ◌∙◌, arith}
use Rattle.repl_model.specs.Words.{Values, Value}
use Rattle.row_expr.specs.declared.expression.Waiting.{Waiting}
use Rattle.row_expr.specs.Evaluation.{operation_value, rest_size, rest_sizes, whole_value}

-- the operation that was pushed last gets its value first
pub whole_value-push : (row : Values) (waiting : List Waiting) (operation : Waiting) (v : Value) → whole_value row (waiting ++ operation ∷ []) v ≡ whole_value row waiting (operation_value row operation v)
whole_value-push row [] operation v = refl
whole_value-push row (first ∷ waiting) operation v = ap (operation_value row first) (whole_value-push row waiting operation v)

-- one more operation adds the expressions that it has left
pub rest_sizes-push : (waiting : List Waiting) (operation : Waiting) → rest_sizes (waiting ++ operation ∷ []) ≡ rest_sizes waiting + rest_size operation
rest_sizes-push [] operation = omega arith
rest_sizes-push (first ∷ waiting) operation = omega (arith, rest_sizes-push waiting operation)

-- the value of all is that of those before the last, given the value of the last
pub whole_value-last : (row : Values) (all waiting : List Waiting) (operation : Waiting) (v whole : Value) → all ≡ waiting ++ operation ∷ [] → operation_value row operation v ≡ whole → whole_value row waiting whole ≡ whole_value row all v
whole_value-last row all waiting operation v whole split given = sym (ap (λ (s : List Waiting). whole_value row s v) split ∙ whole_value-push row waiting operation v ∙ ap (whole_value row waiting) given)

-- all have left what those before the last and the last have left
pub rest_sizes-last : (all waiting : List Waiting) (operation : Waiting) → all ≡ waiting ++ operation ∷ [] → rest_sizes waiting + rest_size operation ≡ rest_sizes all
rest_sizes-last all waiting operation split = omega (arith, ap rest_sizes split, rest_sizes-push waiting operation)
