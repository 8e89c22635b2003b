use Rattle.std.specs.Prelude.{◌-◌, ◌^◌, IfSome}
use Rattle.site_store.specs.Words.{sees, Looks}
use Rattle.source_log.proofs.Flights.{SoFar}
use Rattle.source_log.proofs.in_flight.positions_of.Given as goal

abbrev pub invariant-loop-positions : goal.invariant-loop-positions
invariant-loop-positions g l = record {
  looks : Looks g.K.Keeper.kept l.fn.sites l.sites;
  so_far : IfSome (sees g.K.Keeper.kept l.fn.sites l.server) (SoFar l.tx l.last l.positions);
}

abbrev pub decreases-loop-positions : goal.decreases-loop-positions
decreases-loop-positions g l = 2 ^ 64 - l.last
