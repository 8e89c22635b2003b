use Rattle.keep_core.specs.Kept.{IsClosed}
use Rattle.file_tests.proofs.by_chance.noted_of.Given as goal

abbrev pub invariant-loop-transaction : goal.invariant-loop-transaction
invariant-loop-transaction g l = IsClosed (g.K.Keeper.kept l.keeper)
