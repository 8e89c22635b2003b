use Rattle.keep_map.specs.Places.{contents_of}
use Rattle.std.proofs.Common.{false, refl}
use Rattle.keep_map.proofs.KeptFrom.{kept_from}
use Rattle.keep_map.proofs.map_keeper.MapKeeper.new.Goals as goal

pub returns : goal.returns
returns c = record {
  kept = λ i. kept_from (contents_of (c.new-rows.ensures.held i)) (contents_of (c.new-rows.ensures.seen i)) false (c.new-plan.ensures i).faults (c.new-reads.ensures i) (c.new-writes.ensures i);
  plan = c.new-plan.ensures;
  doubt = refl;
}
