use Rattle.std.proofs.Common.{refl}
use Rattle.repl_model.specs.Units.{units}
use Rattle.repl_model.specs.ChangeRows.{change_rows, changes_between}
use Rattle.repl_model.proofs.worked_logs.worked_mixed_log.Goals as goal

pub returns-clause-seqs : goal.returns-clause-seqs
unfolding units
returns-clause-seqs c = refl

pub returns-clause-changes : goal.returns-clause-changes
unfolding units
returns-clause-changes c = refl

pub returns-clause-rows : goal.returns-clause-rows
unfolding units change_rows changes_between
returns-clause-rows c = refl
