use Rattle.repl_definitions.specs.Weights.{predicate_weight}
use Rattle.repl_definitions.proofs.predicate.Predicate.drop.Given as goal

abbrev pub decreases-loop-self : goal.decreases-loop-self
decreases-loop-self l = predicate_weight l.self
