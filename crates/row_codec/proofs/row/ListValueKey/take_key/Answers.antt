use Rattle.std.proofs.Common.{◌≡◌, ℕ, ◌<◌, false, length, sym, ap, ◌∙◌, Err, arith}
use Rattle.std.specs.Prelude.{◌==◌}
use Rattle.std.proofs.lemmas.Bool.Decides.{nat_tests}
use Rattle.row_codec.specs.declared.take_error.TakeError.{TakeError}
use Rattle.row_codec.specs.laws.Exits.{handed_on}
use Rattle.row_codec.proofs.Lists.{no_key}
use Rattle.row_codec.proofs.row.ListValueKey.take_key.Goals as goal

pub returns-in_err-value-clause-spelling : goal.returns-in_err-value-clause-spelling
returns-in_err-value-clause-spelling c e key fits same =
    let given = handed_on c.from_residual.result c.in_err-value.field-0.0 _ c.from_residual.ensures.1 e in
    let some : (length c.loop-left.left.now == 0) ≡ false = sym c.is_empty.ensures ∙ c.loop-left-test.true in
    no_key c.loop-left.values key c.loop-left.left.now c.loop-left.invariant.1 fits (above (length c.loop-left.left.now) some) (c.in_err-value.ensures.spelling (ap (λ (k : TakeError). Err k) given)) (sym c.loop-left.invariant.0 ∙ same)
  where
    above : (n : ℕ) → (n == 0) ≡ false → 0 < n
    above n some = grind (arith, nat_tests)
