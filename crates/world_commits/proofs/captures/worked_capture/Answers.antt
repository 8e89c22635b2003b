use Rattle.std.proofs.Common.{refl}
use Rattle.repl_model.specs.Words.{units}
use Rattle.world_commits.specs.captures.Captures.{uncaptured}
use Rattle.world_commits.proofs.captures.worked_capture.Goals as goal

-- what the captures make of the server, and how many rows they capture
pub returns : goal.returns
unfolding uncaptured units
returns c = record { one = refl; all = refl; rest = refl; rows = refl }
