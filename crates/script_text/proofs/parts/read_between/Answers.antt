use Rattle.std.proofs.Common.{sym, ◌∙◌}
use Rattle.script_text.proofs.Numerals.{found_between, none_between}
use Rattle.script_text.proofs.parts.read_between.Goals as goal

pub returns-in-Some-clause-ok : goal.returns-in-Some-clause-ok
returns-in-Some-clause-ok c = found_between _ _ _ _ c.ranges.high.fits (sym c.read_number.ensures ∙ c.in-Some.is)

pub returns-in-None-clause-refused : goal.returns-in-None-clause-refused
returns-in-None-clause-refused c = none_between _ _ _ c.ranges.high.fits (sym c.read_number.ensures ∙ c.in-None.is)
