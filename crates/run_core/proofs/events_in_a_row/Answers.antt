use Rattle.run_core.specs.laws.Runs.{last_append, lines_append, refused_append}
use Rattle.run_core.proofs.events_in_a_row.Goals as goal

pub returns-clause-world : goal.returns-clause-world
returns-clause-world g c = λ w first second. last_append w first second

pub returns-clause-lines : goal.returns-clause-lines
returns-clause-lines g c = λ first second. lines_append first second

pub returns-clause-refused : goal.returns-clause-refused
returns-clause-refused g c = λ first second. refused_append first second
