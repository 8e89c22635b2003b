use Rattle.std.proofs.Common.{◌≡◌, ℕ, true, false, List, [], length, sym, ap, ◌∙◌, append-nil, Err}
use Rattle.std.specs.Prelude.{◌==◌}
use Rattle.row_codec.specs.declared.take_error.TakeError.{TakeError}
use Rattle.row_codec.specs.laws.Exits.{handed_on}
use Rattle.row_codec.proofs.part.take_whole.Goals as goal

pub returns-in_err-value-clause-spelling : goal.returns-in_err-value-clause-spelling
returns-in_err-value-clause-spelling g c e x fx h =
    let given = handed_on c.from_residual.result c.in_err-value.field-0.0 _ c.from_residual.ensures.1 e in
    c.in_err-value.ensures.spelling (ap (λ (k : TakeError). Err k) given) x [] fx (h ∙ sym (append-nil (g.T.Part.spelling x)))

pub returns-then-not-is_empty-clause-spelling : goal.returns-then-not-is_empty-clause-spelling
returns-then-not-is_empty-clause-spelling g c e x fx h =
    let same = g.met.T.Part.one c.in_ok-value.value x c.in_ok-value.rest.now [] c.in_ok-value.ensures.ok.0 fx (sym c.in_ok-value.ensures.ok.1 ∙ h ∙ sym (append-nil (g.T.Part.spelling x))) in
    let full : true ≡ false = ap (λ (l : List ℕ). length l == 0) (sym same.1) ∙ sym c.is_empty.ensures ∙ c.if-not-is_empty.true in
    absurd cc
