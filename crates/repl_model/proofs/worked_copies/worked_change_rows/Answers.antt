use Rattle.std.proofs.Common.{refl}
use Rattle.repl_model.specs.Units.{units}
use Rattle.repl_model.specs.ChangeRows.{change_rows, changes_between}
use Rattle.repl_model.proofs.worked_copies.worked_change_rows.Goals as goal

pub returns-clause-whole : goal.returns-clause-whole
unfolding units change_rows changes_between
returns-clause-whole c = refl

pub returns-clause-apart : goal.returns-clause-apart
unfolding units change_rows changes_between
returns-clause-apart c = refl

pub returns-clause-items : goal.returns-clause-items
unfolding units change_rows changes_between
returns-clause-items c = refl
