use Rattle.std.proofs.Common.{ap, Err}
use Rattle.row_codec.specs.declared.take_error.TakeError.{TakeError}
use Rattle.row_codec.specs.laws.Exits.{handed_on}
use Rattle.row_codec.proofs.parts.take_three.Goals as goal

pub returns-in_err-first-clause-spelling : goal.returns-in_err-first-clause-spelling
returns-in_err-first-clause-spelling g c e first second third rest fits_first fits_second fits_third same =
    let given = handed_on c.from_residual.result c.in_err-first.field-0.0 _ c.from_residual.ensures.1 e in
    c.in_err-first.ensures.spelling (ap (λ (k : TakeError). Err k) given) (first, second) third rest (fits_first, fits_second) fits_third same
