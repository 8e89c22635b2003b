use Rattle.std.proofs.Common.{◌∙◌, arith, rules, tests}
use Rattle.std.proofs.lemmas.Iterator.{YieldsList-from_slice}
use Rattle.std.proofs.lemmas.Iterator.Search.{all_from_yields_List}
use Rattle.std.proofs.lemmas.List.{take_rest}
use Rattle.repl_types.specs.Name.{is_name_byte}
use Rattle.repl_types.specs.laws.Names.{name_after_letter}
use Rattle.repl_types.proofs.name.is_name.Goals as goal

pub returns-then-bytes-le-NAME_LIMIT : goal.returns-then-bytes-le-NAME_LIMIT
returns-then-bytes-le-NAME_LIMIT c =
    let bytes = c.args.bytes.now in
    let rest = take_rest bytes 1 in
    all_from_yields_List is_name_byte _ _ c.all.result c.all.ensures.ran (YieldsList-from_slice _ (c.iter.ensures.rest ∙ rest)) (λ x b q k. search (rules, tests)) ∙ name_after_letter bytes (omega arith) (omega arith) (omega arith) (omega arith)
