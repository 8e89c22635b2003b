use Rattle.std.proofs.Common.{◌≡◌, sym, ap, ◌∙◌, arith}
use Rattle.keep_core.specs.Kept.{Kept, closed_with}
use Rattle.keep_map.specs.Keepers.{kept_of}
use Rattle.keep_map.proofs.map_keeper.MapKeeperKeeper.rollback.Goals as goal

pub returns-clause-closes : goal.returns-clause-closes
returns-clause-closes c =
    let old = kept_of c.args.self.now in
    let new = kept_of c.close.new.self in
    let is : new ≡ closed_with old old.faults = c.close.ensures.kept in
    let faults : old.faults ≡ new.faults = sym (ap (λ (k : Kept). k.faults) is) in
    record { now = is ∙ ap (closed_with old) faults; later = omega (arith, faults) }
