use Rattle.std.proofs.Common.{◌≡◌, [], take, filter_map}
use Rattle.site_store.specs.Words.{Looks}
use Rattle.repl_model.specs.Words.{member_gap}
use Rattle.set_places.specs.Members.{ForSource}
use Rattle.set_places.specs.Reading.{ReadsOnly}
use Rattle.subs_sets.specs.Rules.{is_read}
use Rattle.subs_sets.proofs.gaps.first_gap.Given as goal

abbrev pub invariant-loop-member : goal.invariant-loop-member
invariant-loop-member g l = record {
  look : Looks g.K.Keeper.kept l.fn.sites l.sites;
  none : ForSource g.K.Keeper.kept l.fn.sites l.set (λ w k. filter_map (member_gap k.source l.point) (take l.member k.at_source.def.members) ≡ []);
  reads : ReadsOnly is_read g.K.Keeper.kept l.fn.sites l.sites;
}
