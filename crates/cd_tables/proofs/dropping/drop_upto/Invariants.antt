use Rattle.std.specs.Prelude.{◌-◌, ◌^◌, IfSome}
use Rattle.world_store.specs.Words.{IsChangeKey, change_key_spelling}
use Rattle.site_store.specs.Words.{after_key, GoesOn}
use Rattle.repl_types.specs.declared.area.Area.TheVariants as areas
use Rattle.cd_tables.specs.Reading.{ReadsOnlyIn}
use Rattle.cd_tables.proofs.DroppedRows.{HasDropped}
use Rattle.cd_tables.specs.laws.ChangeKeys.{rank_of}
use Rattle.cd_tables.proofs.dropping.drop_upto.Given as goal

abbrev pub invariant-loop-key : goal.invariant-loop-key
invariant-loop-key g l = record {
  reads : ReadsOnlyIn areas.Cd g.K.Keeper.kept l.fn.sites l.sites;
  fits : IfSome l.last IsChangeKey;
  goes : GoesOn g.K.Keeper.kept l.fn.sites l.sites l.server (HasDropped l.reg l.floor l.count (after_key change_key_spelling l.last));
}

abbrev pub decreases-loop-key : goal.decreases-loop-key
decreases-loop-key g l = 2 ^ 144 - rank_of l.last
