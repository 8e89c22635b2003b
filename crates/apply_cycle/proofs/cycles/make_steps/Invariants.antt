use Rattle.std.proofs.Common.{◌≡◌, length}
use Rattle.site_store.specs.Words.{KeepsServers}
use Rattle.apply_cycle.specs.Cycling.{ForCycle, Adds}
use Rattle.apply_cycle.proofs.CycleSteps.{Goes}
use Rattle.apply_cycle.proofs.cycles.make_steps.Given as goal

abbrev pub invariant-loop-count : goal.invariant-loop-count
invariant-loop-count g l = record {
  adds : Adds l.fn.done l.done (λ answers. (length answers ≡ l.count) × ForCycle g.K.Keeper.kept g.T.Targets.takes l.fn.sites l.id (Goes g.K.Keeper.kept g.T.Targets.takes l.fn.sites l.sites l.id answers l.count l.most));
  servers : KeepsServers g.K.Keeper.kept l.fn.sites l.sites;
}
