use Rattle.std.proofs.Common.{take}
use Rattle.std.specs.List.{All}
use Rattle.repl_types.specs.ValueText.{IsValue}
use Rattle.log_text.proofs.laws.row_fits.Given as goal

abbrev pub invariant-loop-value : goal.invariant-loop-value
invariant-loop-value l = All IsValue (take l.value-index l.row)
