use Rattle.std.proofs.Common.{sym, ◌∙◌, arith}
use Rattle.repl_types.specs.laws.Numbers.{numeral_is_text, number_past}
use Rattle.repl_types.proofs.value_text.read_number.Goals as goal

pub returns-in_default : goal.returns-in_default
returns-in_default c = absurd (c.in_default.ensures.cases.0 (numeral_is_text c.args.word.now (sym c.if-not-is_numeral.ensures)))

pub returns-in_err-number : goal.returns-in_err-number
returns-in_err-number c =
    c.from_residual.ensures ∙ number_past c.args.low c.args.high c.args.word.now c.parse.result (sym c.if-not-is_numeral.ensures) (omega arith) (rw c.in-Ok.ensures.cases.0 at c.parse.ensures.value.0) c.in_err-number.ensures.value
