use Rattle.std.specs.Prelude.{◌-◌, ◌^◌, Some}
use Rattle.world_store.specs.Words.{IsChangeKey}
use Rattle.site_store.specs.Words.{sees, GoesOn}
use Rattle.cd_tables.specs.laws.ChangeKeys.{rank_of}
use Rattle.set_places.specs.Reading.{ReadsOnly}
use Rattle.target_steps.specs.Taking.{ReadsCounted}
use Rattle.apply_copies.specs.Changing.{source_as}
use Rattle.apply_copies.specs.Taking.{is_of_changes}
use Rattle.apply_copies.proofs.ChangesInTurn.{HasTaken}
use Rattle.apply_copies.proofs.taking.take_changes.Given as goal

abbrev pub invariant-loop-next : goal.invariant-loop-next
invariant-loop-next g l = record {
  fits : IsChangeKey l.after;
  goes : GoesOn g.K.Keeper.kept l.fn.sites l.sites l.set.target (HasTaken (sees g.K.Keeper.kept l.fn.sites l.set.source) l.source.reg.number l.number (source_as l.source) l.member l.from l.upto l.after l.counts);
  reads : ReadsOnly is_of_changes g.K.Keeper.kept l.fn.sites l.sites;
  counted : ReadsCounted 0 g.K.Keeper.kept l.fn.sites l.sites l.counts;
}

abbrev pub decreases-loop-next : goal.decreases-loop-next
decreases-loop-next g l = 2 ^ 144 - rank_of (Some l.after)
