use Rattle.std.proofs.Common.{◌≡◌, Bool, true, false, cond, Some, None, inl, inr, refl, codes}
use Rattle.std.specs.FinMap.{empty, insert, remove}
use Rattle.std.proofs.lemmas.Bool.{cases_Bool}
use Rattle.repl_types.specs.Value.{Values, key_cmp}
use Rattle.repl_model.specs.Tables.{same_values, after_change}
use Rattle.repl_model.specs.Units.{units}
use Rattle.repl_model.specs.SourceAt.{source_at}
use Rattle.repl_model.specs.ChangeRows.{change_rows, changes_between}
use Rattle.repl_model.specs.Worked.{item_key, item}
use Rattle.repl_model.specs.laws.Rows.{same_values_exact, same_rows, at_key}
use Rattle.repl_model.proofs.worked_logs.worked_log.Goals as goal

pub returns-clause-units : goal.returns-clause-units
unfolding units
returns-clause-units c = refl

pub returns-clause-rows : goal.returns-clause-rows
unfolding units change_rows changes_between
returns-clause-rows c = refl

-- the rows after the changes of the log, key by key
copied : (pen ink red_ink : Values) → remove (insert (remove (insert (insert (empty {R = key_cmp}) (item_key 1) pen) (item_key 2) ink) (item_key 2)) (item_key 2) red_ink) (item_key 1) ≡ insert empty (item_key 2) red_ink
copied pen ink red_ink = same_rows _ _ (λ q. simp at_key (at q))
  where
    at : (q : Values) → cond (same_values q (item_key 1)) None (cond (same_values q (item_key 2)) (Some red_ink) (cond (same_values q (item_key 2)) None (cond (same_values q (item_key 2)) (Some ink) (cond (same_values q (item_key 1)) (Some pen) None)))) ≡ cond (same_values q (item_key 2)) (Some red_ink) None
    at q = elim (cases_Bool (same_values q (item_key 1))) [
      | inl one ↦ rw (same_values_exact q (item_key 1) one) refl
      | inr other ↦ rw other (two (same_values q (item_key 2)))
    ]
      where
        two : (b : Bool) → cond b (Some red_ink) (cond b None (cond b (Some ink) None)) ≡ cond b (Some red_ink) None
        two true = refl
        two false = refl

pub returns-clause-copy : goal.returns-clause-copy
unfolding units source_at after_change
returns-clause-copy c = copied (item 1 (codes "pen")) (item 2 (codes "ink")) (item 2 (codes "red ink"))
