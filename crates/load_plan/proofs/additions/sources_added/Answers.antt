use Rattle.std.proofs.Common.{rules, ◌≡◌, ◌<◌, ◌∷◌, [], ◌++◌, ap, sym, ◌∙◌, true, false, length, slice_index_or}
use Rattle.repl_model.specs.Words.{SetDef}
use Rattle.load_plan.specs.Limits.{gets_source}
use Rattle.load_plan.proofs.Numbered.{rows_with, rows_without, count_with, count_without}
use Rattle.load_plan.proofs.additions.sources_added.Goals as goal
use Rattle.load_plan.proofs.additions.sources_added.Goals.{then-gets_source+in_ok-def+in_ok-push, else-gets_source}

pub sets-preserved : goal.sets-preserved
sets-preserved c =
    let sets = c.args.defs.now.sets in
    let i = c.sets.set-index in
    let set = c.set-item.result in
    let gets = gets_source c.args.server.now in
    let within : i < length sets = search rules in
    let is : set ≡ slice_index_or sets i set = search rules in
    elim c.if-gets_source.branch [
      | then-gets_source+in_ok-def+in_ok-push w ↦
          let gains : gets set ≡ true = sym c.gets_source.ensures ∙ w.if-gets_source.true in
          let grown : c.if-gets_source.rows ≡ c.sets.rows ++ record { number = c.sets.number; def = set } ∷ [] = w.rows-is ∙ w.in_ok-push.ensures.items ∙ ap (λ (def : SetDef). c.sets.rows ++ record { number = c.sets.number; def = def } ∷ []) w.in_ok-def.ensures in
          record {
            rows = rows_with (λ s. record { number = s.0; def = s.1 }) gets sets i set _ _ _ _ _ within is gains grown w.number-is c.sets.invariant.rows;
            count = count_with gets sets i set _ _ _ within is gains w.number-is c.sets.invariant.count;
          }
      | else-gets_source w ↦
          let has : gets set ≡ false = sym c.gets_source.ensures ∙ w.if-gets_source.false in
          record {
            rows = rows_without (λ s. record { number = s.0; def = s.1 }) gets sets i set _ _ _ _ _ within is has w.rows-is w.number-is c.sets.invariant.rows;
            count = count_without gets sets i set _ _ _ within is has w.number-is c.sets.invariant.count;
          }
    ]
