use Rattle.std.proofs.Common.{◌∙◌, refl, ap, rules, tests}
use Rattle.std.specs.List.{find}
use Rattle.std.proofs.lemmas.Iterator.Search.{find_from_yields_List}
use Rattle.std.proofs.lemmas.Iterator.Consumers.{YieldsList-from_rest}
use Rattle.keep_map.specs.Scattered.{stops}
use Rattle.keep_map.proofs.scattered_rows.ScatteredRows.first.Goals as goal

pub returns-clause-entry : goal.returns-clause-entry
returns-clause-entry c =
    let test = stops c.args.after.area c.args.after.table in
    find_from_yields_List test _ _ c.find.result c.find.ensures.ran (YieldsList-from_rest c.range.result refl) (λ x b q k. search (rules, tests)) ∙ ap (find test) (c.range.ensures.between tt)
