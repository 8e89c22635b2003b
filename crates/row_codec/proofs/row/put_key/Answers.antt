use Rattle.std.proofs.Common.{◌≡◌, ℕ, ◌<◌, List, ◌++◌, length, get_or, refl, sym, subst, ap, ◌∙◌}
use Rattle.std.specs.List.{All}
use Rattle.std.proofs.lemmas.List.{get_or_read_under}
use Rattle.std.proofs.lemmas.List.Elements.{All-get_or}
use Rattle.repl_types.specs.declared.value.Value.{Value}
use Rattle.repl_types.specs.declared.value.Value.TheVariants.{Null}
use Rattle.row_codec.specs.Spelling.{value_spelling}
use Rattle.row_codec.proofs.Lists.{key_more}
use Rattle.row_codec.proofs.row.put_key.Goals as goal

pub loop-place-preserved : goal.loop-place-preserved
loop-place-preserved c =
    let row = c.args.row.now in
    let places = c.as_slice-place-items.result.now in
    let place = get_or places c.loop-place.place-index 0 in
    let value = c.index-values-place.result in
    let within : place < length row = All-get_or (λ (p : ℕ). p < length row) places c.loop-place.place-index 0 c.loop-place-test.true (subst (All (λ (p : ℕ). p < length row)) (sym c.as_slice-place-items.ensures) c.requires) in
    let is : value ≡ get_or row place value = c.index-values-place.is ∙ ap (λ (values : List Value). get_or values place value) c.as_slice-values.ensures in
    key_more c.args.out.now.items c.put_part.new.out.items places row c.loop-place.place-index value c.loop-place-test.true (get_or_read_under row place (length row) value Null is within refl)
    (c.in_ok-put_part.ensures.ok ∙ ap (λ (l : List ℕ). l ++ value_spelling value) c.loop-place.invariant.0) c.loop-place.invariant.1 c.in_ok-put_part.ensures.fits
