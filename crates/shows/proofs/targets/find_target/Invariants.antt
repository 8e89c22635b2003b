use Rattle.site_store.specs.Words.{Looks}
use Rattle.shows.proofs.FoundTargets.{NoneBefore}
use Rattle.shows.proofs.targets.find_target.Given as goal

abbrev pub invariant-loop-row : goal.invariant-loop-row
invariant-loop-row g l = record {
  looks : Looks g.K.Keeper.kept l.fn.sites l.sites;
  none : NoneBefore g.K.Keeper.kept l.fn.sites l.server l.name l.row-items l.row-index;
}
