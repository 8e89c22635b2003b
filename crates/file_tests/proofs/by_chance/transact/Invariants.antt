use Rattle.keep_core.specs.Kept.{IsOpen}
use Rattle.file_tests.proofs.by_chance.transact.Given as goal

abbrev pub invariant-loop-change : goal.invariant-loop-change
invariant-loop-change g l = IsOpen (g.K.Keeper.kept l.keeper)
