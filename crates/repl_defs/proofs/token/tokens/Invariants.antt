use Rattle.std.proofs.Common.{length}
use Rattle.repl_defs.specs.laws.Rests.{Continues}
use Rattle.repl_defs.proofs.token.tokens.Given as goal

abbrev pub invariant-loop-rest : goal.invariant-loop-rest
invariant-loop-rest l = Continues l.tokens l.rest l.text

abbrev pub decreases-loop-rest : goal.decreases-loop-rest
decreases-loop-rest l = length l.rest
