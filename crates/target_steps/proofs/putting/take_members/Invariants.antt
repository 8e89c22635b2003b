use Rattle.site_store.specs.Words.{GoesOn}
use Rattle.target_steps.specs.Taking.{ReadsForStep, CountsReads}
use Rattle.target_steps.proofs.TakeSteps.{TakesFirst}
use Rattle.target_steps.proofs.putting.take_members.Given as goal

-- the first members are taken through the step, and this was counted
abbrev pub invariant-loop-member : goal.invariant-loop-member
invariant-loop-member g l = GoesOn g.K.Keeper.kept l.fn.sites l.sites l.set.target (TakesFirst g.K.Keeper.kept g.T.Targets.takes g.T.Targets.shows l.fn.sites l.set l.step l.member l.counts) × ReadsForStep l.step g.K.Keeper.kept l.fn.sites l.sites × CountsReads l.step l.member g.K.Keeper.kept l.fn.sites l.sites l.counts
