use Rattle.repl_definitions.specs.Weights.{expr_weight}
use Rattle.repl_definitions.proofs.expr.Expr.drop.Given as goal

abbrev pub decreases-loop-self : goal.decreases-loop-self
decreases-loop-self l = expr_weight l.self
