use Rattle.std.proofs.Common.{ap, Err, arith}
use Rattle.row_codec.specs.declared.take_error.TakeError.{TakeError}
use Rattle.row_codec.specs.laws.Exits.{handed_on}
use Rattle.row_codec.proofs.Lists.{no_list}
use Rattle.row_codec.proofs.list.ListPart.take_part.Goals as goal

pub returns-in_err-item-clause-spelling : goal.returns-in_err-item-clause-spelling
returns-in_err-item-clause-spelling g c e xs rest fits same =
    let given = handed_on c.from_residual-in_err-item.result c.in_err-item.field-0.0 _ c.from_residual-in_err-item.ensures.1 e in
    no_list g.T.Part.fits g.T.Part.spelling g.met.T.Part.one c.args.bytes.now c.in_ok-count.count c.loop.items xs c.loop.left.now rest c.in_ok-count.ensures.ok.0 c.loop.invariant.0 c.loop.invariant.1 fits (omega (arith, c.loop-test.true, c.loop.invariant.2)) (c.in_err-item.ensures.spelling (ap (λ (k : TakeError). Err k) given)) same
