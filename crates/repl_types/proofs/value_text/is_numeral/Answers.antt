use Rattle.std.proofs.Common.{◌∙◌, arith, rules, tests}
use Rattle.std.specs.Char.{is_ascii_digit}
use Rattle.std.proofs.lemmas.Iterator.{YieldsList-from_slice}
use Rattle.std.proofs.lemmas.Iterator.Search.{all_from_yields_List}
use Rattle.repl_types.specs.laws.Numbers.{plain_numeral}
use Rattle.repl_types.proofs.value_text.is_numeral.Goals as goal

pub returns-in_default : goal.returns-in_default
returns-in_default c =
    all_from_yields_List is_ascii_digit _ _ c.all.result c.all.ensures.ran (YieldsList-from_slice c.args.word.now cc) (λ x b q k. search (rules, tests)) ∙ plain_numeral c.args.word.now (omega arith) (omega arith)
