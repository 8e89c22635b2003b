use Rattle.keep_map.proofs.RunChanges.{rows_of_new}
use Rattle.keep_map.proofs.table_run.TableRun.new.Goals as goal

pub returns : goal.returns
returns c = rows_of_new c.new.result c.new.ensures.none
