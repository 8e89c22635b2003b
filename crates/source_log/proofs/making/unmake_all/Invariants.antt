use Rattle.std.proofs.Common.{◌≡◌, ◌≤◌, length, take}
use Rattle.site_store.specs.Words.{GoesOn}
use Rattle.source_log.specs.Making.{all_unmade}
use Rattle.source_log.proofs.making.unmake_all.Given as goal

abbrev pub invariant-loop-left : goal.invariant-loop-left
invariant-loop-left g l = record {
  few : l.left ≤ length l.steps;
  goes : GoesOn g.K.Keeper.kept l.fn.sites l.sites l.server (λ c d. all_unmade (take l.left l.steps) d ≡ all_unmade l.steps c);
}

abbrev pub decreases-loop-left : goal.decreases-loop-left
decreases-loop-left g l = l.left
