use Rattle.row_codec.proofs.Worked.{row_worked}
use Rattle.row_codec.proofs.laws.worked_row.Goals as goal

pub returns : goal.returns
returns c = row_worked
