use Rattle.std.proofs.Common.{◌≡◌, ◌-◌, ◌≤◌, ◌^◌}
use Rattle.site_store.specs.Words.{Looks}
use Rattle.repl_model.specs.Words.{synchpoint}
use Rattle.set_places.specs.Members.{ForSource}
use Rattle.set_places.specs.Reading.{ReadsOnly}
use Rattle.subs_sets.specs.Rules.{is_read}
use Rattle.subs_sets.proofs.BlockCuts.{IsCutTo}
use Rattle.subs_sets.proofs.cuts.block_end.Given as goal

abbrev pub invariant-loop-next : goal.invariant-loop-next
invariant-loop-next g l = record {
  look : Looks g.K.Keeper.kept l.fn.sites l.sites;
  cut : ForSource g.K.Keeper.kept l.fn.sites l.set (λ w k. l.fn.point ≡ synchpoint k.at_target.trail → k.source.floor ≤ l.fn.point → IsCutTo l.end k l.time l.number l.cut);
  reads : ReadsOnly is_read g.K.Keeper.kept l.fn.sites l.sites;
}

abbrev pub decreases-loop-next : goal.decreases-loop-next
decreases-loop-next g l = 2 ^ 64 - l.cut
