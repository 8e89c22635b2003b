use Rattle.std.proofs.Common.{sym, ◌∙◌}
use Rattle.script_text.proofs.OneCommand.{one_command}
use Rattle.script_text.proofs.laws.one_command_of_a_line.Goals as goal

pub returns : goal.returns
returns g line c d is also = one_command c d is.fits also.fits (sym is.spelled ∙ also.spelled)
