use Rattle.site_store.specs.Words.{GoesOn}
use Rattle.source_log.proofs.Turns.{MadeFirst}
use Rattle.source_log.proofs.making.make_first.Given as goal

abbrev pub invariant-steps : goal.invariant-steps
invariant-steps g l = GoesOn g.K.Keeper.kept l.fn.sites l.sites l.server (MadeFirst l.steps l.made)
