use Rattle.repl_model.specs.laws.Inverse.{undo}
use Rattle.repl_model.proofs.changes.undo.Goals as goal

pub returns : goal.returns
returns c = undo
