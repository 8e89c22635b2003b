use Rattle.std.proofs.Common.{sym, ap, ◌∙◌, append_assoc, ◌++◌, Err}
use Rattle.row_codec.specs.declared.take_error.TakeError.{TakeError}
use Rattle.row_codec.specs.laws.Exits.{handed_on}
use Rattle.row_codec.proofs.part.Tuple2Part.take_part.Goals as goal

pub returns-in_err-second-clause-spelling : goal.returns-in_err-second-clause-spelling
returns-in_err-second-clause-spelling g c e x rest fx h =
    let given = handed_on c.from_residual-in_err-second.result c.in_err-second.field-0.0 _ c.from_residual-in_err-second.ensures.1 e in
    let after = g.B.Part.spelling x.1 ++ rest in
    let same = g.met.A.Part.one c.in_ok-first.first x.0 c.in_ok-first.rest.now after c.in_ok-first.ensures.ok.0 fx.0 (sym c.in_ok-first.ensures.ok.1 ∙ h ∙ append_assoc (g.A.Part.spelling x.0) (g.B.Part.spelling x.1) rest) in
    c.in_err-second.ensures.spelling (ap (λ (k : TakeError). Err k) given) x.1 rest fx.1 same.1
