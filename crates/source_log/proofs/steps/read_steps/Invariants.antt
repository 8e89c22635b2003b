use Rattle.std.proofs.Common.{take, IfSome}
use Rattle.std.specs.List.{AllByRecursion}
use Rattle.site_store.specs.Words.{sees, Looks}
use Rattle.source_log.specs.Making.{StepCanBeMade, AreSteps}
use Rattle.source_log.specs.Rules.{IsKnown}
use Rattle.source_log.proofs.steps.read_steps.Given as goal

abbrev pub invariant-positions : goal.invariant-positions
invariant-positions g l = record {
  looks : Looks g.K.Keeper.kept l.fn.sites l.sites;
  read : IfSome (sees g.K.Keeper.kept l.fn.sites l.server) (λ c. IsKnown l.fn.known c → AreSteps l.tx (take l.pos-index l.positions) l.steps c × IsKnown l.known c);
  can : AllByRecursion StepCanBeMade l.steps;
}
