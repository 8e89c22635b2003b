use Rattle.std.proofs.Common.{◌≡◌, ℕ, ◌+◌, ◌<◌, length, List, [], ◌∷◌, ◌++◌, take, get_or, append-nil, refl, sym, ap, ◌∙◌, Option, Some, None}
use Rattle.std.specs.List.{filter_map, cons_option}
use Rattle.std.proofs.lemmas.List.Elements.{filter_map-append}
use Rattle.std.proofs.lemmas.List.{take_more}
use Rattle.repl_model.specs.Words.{TargetColumn, plain_value, Values, Value, Expr, ColumnFrom}
use Rattle.repl_definitions.specs.declared.member.ColumnFrom.TheVariants.{Plain, Count, CountOf, Sum, Min, Max}
use Rattle.apply_copies.proofs.rows.target_row.Goals as goal
use Rattle.apply_copies.proofs.rows.target_row.Goals.{in-Plain+in_ok-eval+in_ok-push, in_default}

-- what a function gives at the first elements and one more
one_more : {X Y : Type 0} (f : X → Option Y) (xs : List X) (n : ℕ) (x : X) → n < length xs → x ≡ get_or xs n x → filter_map f (take (n + 1) xs) ≡ filter_map f (take n xs) ++ cons_option (f x) []
one_more f xs n x lt is = ap (filter_map f) (take_more xs n x lt) ∙ filter_map-append f (take n xs) (get_or xs n x ∷ []) ∙ ap (λ y. filter_map f (take n xs) ++ cons_option (f y) []) (sym is)

-- a column that isn't plain has no value of its own
sums_up : (row : Values) (from : ColumnFrom) → ((e : Expr) → from ≡ Plain e → ⊥) → plain_value row from ≡ None
sums_up row (Plain e) other = absurd (other e refl)
sums_up row Count other = refl
sums_up row (CountOf place) other = refl
sums_up row (Sum place) other = refl
sums_up row (Min place) other = refl
sums_up row (Max place) other = refl

pub loop-column-preserved : goal.loop-column-preserved
loop-column-preserved c =
    let f = λ (column : TargetColumn). plain_value c.args.row.now column.from in
    let more = one_more f c.as_slice-column-items.result.now c.loop-column.column-index c.column-item.result c.loop-column-test.true c.column-item.is in
    let done = filter_map f (take c.loop-column.column-index c.as_slice-column-items.result.now) in
    elim c.match-column.branch [
      | in-Plain+in_ok-eval+in_ok-push w ↦
          let value : Some w.in_ok-eval.field-0 ≡ f c.column-item.result = ap Some w.in_ok-eval.ensures ∙ sym (ap (plain_value c.args.row.now) w.in-Plain.is) in
          w.values-is ∙ w.in_ok-push.ensures.items ∙ ap (λ (l : Values). l ++ w.in_ok-eval.field-0 ∷ []) c.loop-column.invariant ∙ ap (λ (o : Option Value). done ++ cons_option o []) value ∙ sym more
      | in_default w ↦
          w.values-is ∙ c.loop-column.invariant ∙ sym (append-nil done) ∙ ap (λ (o : Option Value). done ++ cons_option o []) (sym (sums_up c.args.row.now c.column-item.result.from w.in_default.not-Plain)) ∙ sym more
    ]
