use Rattle.std.proofs.Common.{◌≡◌, false, take}
use Rattle.std.specs.List.{list_any}
use Rattle.site_store.specs.Words.{Looks}
use Rattle.repl_model.specs.Words.{is_disabled}
use Rattle.set_places.specs.Members.{ForSource}
use Rattle.set_places.specs.Reading.{ReadsOnly}
use Rattle.subs_sets.specs.Rules.{is_read}
use Rattle.subs_sets.proofs.gaps.is_disabled.Given as goal

abbrev pub invariant-loop-member : goal.invariant-loop-member
invariant-loop-member g l = record {
  look : Looks g.K.Keeper.kept l.fn.sites l.sites;
  none : ForSource g.K.Keeper.kept l.fn.sites l.set (λ w k. list_any (is_disabled k.source) (take l.member k.at_source.def.members) ≡ false);
  reads : ReadsOnly is_read g.K.Keeper.kept l.fn.sites l.sites;
}
