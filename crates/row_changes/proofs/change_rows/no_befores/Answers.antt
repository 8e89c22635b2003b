use Rattle.std.proofs.Common.{ℕ, [], ◌∷◌, ◌++◌, sym, ap, ◌∙◌}
use Rattle.std.proofs.lemmas.List.{map_more}
use Rattle.repl_model.specs.Words.{Values}
use Rattle.repl_types.specs.declared.value.Value.TheVariants.{Null}
use Rattle.row_changes.proofs.change_rows.no_befores.Goals as goal

pub loop-preserved : goal.loop-preserved
loop-preserved c =
    c.in_ok-push.ensures.items
    ∙ ap (λ (befores : Values). befores ++ Null ∷ []) c.loop.invariant
    ∙ sym (map_more (λ (place : ℕ). Null) c.as_slice-items.result.now c.loop.index 0 c.loop-test.true)
