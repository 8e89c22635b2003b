use Rattle.std.specs.Prelude.{◌-◌, IfSome}
use Rattle.world_store.specs.Words.{key_spelling}
use Rattle.site_store.specs.Words.{after_key, GoesOn}
use Rattle.repl_model.specs.Words.{key_limit}
use Rattle.repl_types.specs.declared.area.Area.TheVariants as areas
use Rattle.cd_tables.specs.laws.ClearedTables.{HasCleared}
use Rattle.set_places.specs.Reading.{ReadsOnly}
use Rattle.apply_copies.specs.Keys.{IsStoredKey}
use Rattle.apply_copies.specs.Rules.{is_of_load}
use Rattle.apply_copies.proofs.KeyRanks.{rank_of, rank_limit}
use Rattle.apply_copies.proofs.clearing.clear_rows.Given as goal

abbrev pub invariant-loop-key : goal.invariant-loop-key
invariant-loop-key g l = record {
  stored : IfSome l.last IsStoredKey;
  goes : GoesOn g.K.Keeper.kept l.fn.sites l.sites l.target (HasCleared areas.Target l.number (after_key key_spelling l.last));
  reads : ReadsOnly is_of_load g.K.Keeper.kept l.fn.sites l.sites;
}

abbrev pub decreases-loop-key : goal.decreases-loop-key
decreases-loop-key g l = rank_limit key_limit - rank_of l.last
