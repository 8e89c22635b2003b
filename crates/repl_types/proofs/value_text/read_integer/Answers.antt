use Rattle.std.proofs.Common.{sym, ◌∙◌}
use Rattle.repl_types.specs.laws.Numbers.{integer_is_text, integer_parsed}
use Rattle.repl_types.proofs.value_text.read_integer.Goals as goal

pub returns-in_default : goal.returns-in_default
returns-in_default c = absurd (c.in_default.ensures.cases.0 (integer_is_text c.args.word.now (sym c.if-not-is_integer.ensures)))

pub returns : goal.returns
returns c =
    c.ok.ensures.value ∙ integer_parsed c.args.word.now c.parse.result (sym c.if-not-is_integer.ensures) (rw c.in-Ok.ensures.cases.0 at c.parse.ensures.value.0)
