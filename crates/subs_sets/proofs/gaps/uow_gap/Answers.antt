use Rattle.std.proofs.Common.{◌≡◌, ◌∙◌, rules}
use Rattle.site_store.specs.Words.{looks_none}
use Rattle.subs_sets.proofs.FirstGaps.{pruned_gap}
use Rattle.set_places.specs.laws.Standing.{source_name}
use Rattle.subs_sets.proofs.gaps.uow_gap.Goals as goal

pub returns-then-floor-point-clause-ok : goal.returns-then-floor-point-clause-ok
returns-then-floor-point-clause-ok g c = looks_none g.K.Keeper.kept c.args.sites.now

pub returns-clause-gap : goal.returns-clause-gap
returns-clause-gap g c = λ w k sound placed reveals floor_is.
    let named : c.in_ok-server.server ≡ c.args.set.now.at_source.def.source = search rules in
    pruned_gap k c.args.point c.args.floor c.in_ok-server.server c.in_ok-disabled.disabled floor_is (named ∙ source_name w k c.args.set.now sound placed) (c.in_ok-disabled.ensures.disabled w k sound placed reveals) c.if-floor-point.false
