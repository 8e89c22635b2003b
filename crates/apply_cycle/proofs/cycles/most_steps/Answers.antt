use Rattle.apply_cycle.proofs.CycleSteps.{most_is}
use Rattle.apply_cycle.proofs.cycles.most_steps.Goals as goal

pub returns-clause-most : goal.returns-clause-most
returns-clause-most g c = most_is g.K.Keeper.kept c.args.sites.now c.args.set.now c.requires.closed c.in_ok-point.point c.saturating_add.result c.in_ok-point.ensures.point c.saturating_add.ensures
