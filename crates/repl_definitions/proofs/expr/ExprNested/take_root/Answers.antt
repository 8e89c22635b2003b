use Rattle.std.proofs.Common.{◌≡◌, ◌≤◌, ◌-◌, Err, ap, ◌∙◌, get_or, drop, length, length-drop, arith}
use Rattle.std.proofs.lemmas.List.{take_all}
use Rattle.row_codec.specs.declared.take_error.TakeError.{TakeError}
use Rattle.row_codec.specs.laws.Exits.{handed_on}
use Rattle.repl_definitions.proofs.Tagged.{value_node}
use Rattle.repl_definitions.proofs.expr.ExprNested.take_root.Goals as goal

pub returns-in_err-value-in-17-clause-spelling : goal.returns-in_err-value-in-17-clause-spelling
returns-in_err-value-in-17-clause-spelling c e x rest fits h =
    let given = handed_on c.from_residual-in_err-value-in-17.result c.in_err-value-in-17.field-0.0 _ c.from_residual-in_err-value-in-17.ensures.1 e in
    let bytes = c.args.bytes.now in
    let tag : get_or bytes 0 0 ≡ 0x11 = omega arith in
    let value = value_node bytes rest x tag fits h in
    let all : length (drop 1 bytes) ≤ length bytes - 1 = omega (arith, length-drop 1 bytes) in
    c.in_err-value-in-17.ensures.spelling (ap (λ (k : TakeError). Err k) given) value.0 rest value.1 (take_all (length bytes - 1) (drop 1 bytes) all ∙ value.2)
