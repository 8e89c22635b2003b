use Rattle.std.proofs.Common.{◌≡◌, sym, ◌∙◌}
use Rattle.std.proofs.lemmas.Result.{err_from_is_err_and}
use Rattle.site_store.specs.Words.{breaks_after, looks_then}
use Rattle.repl_model.specs.Words.{uow_gap}
use Rattle.subs_sets.specs.Gaps.{gap_of_found}
use Rattle.subs_sets.specs.Rules.{source_rules}
use Rattle.subs_sets.proofs.FirstGaps.{member_has_gap, table_has_gap}
use Rattle.subs_sets.proofs.Looking.{for_source_back}
use Rattle.subs_sets.proofs.MemberGaps.{some_found, none_found}
use Rattle.subs_sets.proofs.gaps.find_gap.Goals as goal

pub returns-then-is_some-clause-gap : goal.returns-then-is_some-clause-gap
returns-then-is_some-clause-gap g c = λ w k sound placed reveals point_is floor_is.
    let gap = some_found c.in_ok-gap.gap (sym c.is_some.ensures ∙ c.if-is_some.true) in
    gap.1 ∙ member_has_gap k c.args.point gap.0 point_is (sym gap.1 ∙ c.in_ok-gap.ensures.gap w k sound placed reveals)

pub returns-in_err-gap-2-clause-fault : goal.returns-in_err-gap-2-clause-fault
returns-in_err-gap-2-clause-fault g c =
    let p = err_from_is_err_and c.from_residual-in_err-gap-2.result c.from_residual-in_err-gap-2.ensures.1 in
    rw (p.1, p.2) (breaks_after source_rules g.K.Keeper.kept c.args.sites.now c.first_gap.new.sites c.uow_gap.new.sites c.args.set.now.source c.in_err-gap-2.field-0.0 c.in_ok-gap.ensures.ok c.in_err-gap-2.ensures.fault)

pub returns-clause-ok : goal.returns-clause-ok
returns-clause-ok g c = looks_then g.K.Keeper.kept c.args.sites.now c.first_gap.new.sites c.uow_gap.new.sites c.in_ok-gap.ensures.ok c.in_ok-gap-2.ensures.ok

pub returns-clause-gap : goal.returns-clause-gap
returns-clause-gap g c = λ w k sound placed reveals point_is floor_is.
    let none = none_found c.in_ok-gap.gap (sym c.is_some.ensures ∙ c.if-is_some.false) in
    for_source_back g.K.Keeper.kept c.args.sites.now c.first_gap.new.sites c.args.set.now (λ w k. c.args.floor ≡ k.source.floor → gap_of_found c.in_ok-gap-2.gap ≡ uow_gap k.source c.args.point k.at_source.def.members) c.in_ok-gap.ensures.ok c.in_ok-gap-2.ensures.gap w k sound placed reveals floor_is
    ∙ table_has_gap k c.args.point point_is (sym none ∙ c.in_ok-gap.ensures.gap w k sound placed reveals)
