use Rattle.std.proofs.Common.{◌≡◌, ℕ, List, ◌++◌, ◌∷◌, [], sym, ap, ◌∙◌, arith}
use Rattle.std.proofs.lemmas.List.FromFn.{map-range_with_len_more}
use Rattle.stored_commits.specs.copies.ChangedCopies.{image_of}
use Rattle.apply_copies.proofs.images.imaged_row.Goals as goal

pub loop-column-preserved : goal.loop-column-preserved
loop-column-preserved c =
    let image = image_of c.args.reg.now.after c.args.change.now.after in
    let value : c.in_ok-image_of.field-0 ≡ image c.loop-column.column = c.in_ok-image_of.ensures ∙ ap (λ (places : List ℕ). image_of places c.args.change.now.after c.loop-column.column) c.as_slice.ensures in
    c.in_ok-push.ensures.items ∙ (λ i. c.loop-column.invariant i ++ value i ∷ []) ∙ sym (map-range_with_len_more image 0 c.loop-column.column c.loop-column.column (omega arith))
