use Rattle.repl_model.specs.laws.Applicable.{leaves_keys_push}
use Rattle.repl_model.specs.laws.CopyByRows.{copy_by_rows, copy_onward}
use Rattle.repl_model.proofs.changes.copy_by_change_rows.Goals as goal

pub returns-clause-whole : goal.returns-clause-whole
returns-clause-whole c = copy_by_rows

pub returns-clause-onward : goal.returns-clause-onward
returns-clause-onward c = copy_onward

pub returns-clause-keys : goal.returns-clause-keys
returns-clause-keys c = leaves_keys_push
