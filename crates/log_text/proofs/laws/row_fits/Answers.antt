use Rattle.std.proofs.Common.{subst}
use Rattle.std.specs.List.{All}
use Rattle.std.proofs.lemmas.List.{take_all}
use Rattle.std.proofs.lemmas.List.Elements.{All-more}
use Rattle.repl_types.specs.ValueText.{IsValue}
use Rattle.log_text.proofs.laws.row_fits.Goals as goal

pub loop-value-preserved : goal.loop-value-preserved
loop-value-preserved c =
    let same = c.as_slice-value-items.ensures in
    All-more IsValue c.args.row.now c.loop-value.value-index c.value-item.result (rw same at c.loop-value-test.true) c.loop-value.invariant (subst IsValue (rw same at c.value-item.is) c.value_fits.ensures)

pub returns : goal.returns
returns c = subst (All IsValue) (take_all c.loop-value.value-index c.args.row.now (rw c.as_slice-value-items.ensures at c.loop-value-test.false)) c.loop-value.invariant
