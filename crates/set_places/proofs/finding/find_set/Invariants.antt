use Rattle.site_store.specs.Words.{Looks}
use Rattle.set_places.specs.Reading.{is_of_definitions, ReadsOnly}
use Rattle.set_places.proofs.FoundSets.{NoneBefore}
use Rattle.set_places.proofs.finding.find_set.Given as goal

abbrev pub invariant-loop-target : goal.invariant-loop-target
invariant-loop-target g l = record {
  looks : Looks g.K.Keeper.kept l.fn.sites l.sites;
  reads : ReadsOnly is_of_definitions g.K.Keeper.kept l.fn.sites l.sites;
  none : NoneBefore g.K.Keeper.kept l.fn.sites l.id l.target;
}
