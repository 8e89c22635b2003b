use Rattle.std.proofs.Common.{◌^◌}
use Rattle.std.proofs.lemmas.Result.{err_from_is_err_and}
use Rattle.world_store.specs.Words.{Is64, b64, uow_spelling, IsUow, key_less}
use Rattle.site_store.specs.Words.{reads_of_one, sees, numbers_in_order, next_breaks}
use Rattle.repl_types.specs.declared.area.Area.TheVariants as areas
use Rattle.subs_sets.specs.Rules.{captured_rules}
use Rattle.subs_sets.proofs.JoinedRules.{captured_breaks}
use Rattle.subs_sets.proofs.NextUnits.{unit_read, none_read}
use Rattle.subs_sets.proofs.cuts.next_unit.Goals as goal

pub returns-in_err-next-clause-fault : goal.returns-in_err-next-clause-fault
returns-in_err-next-clause-fault g c =
    let p = err_from_is_err_and c.from_residual.result c.from_residual.ensures.1 in
    let kept = g.K.Keeper.kept in
    let source = c.args.set.now.source in
    let e = c.in_err-next.field-0.0 in
    rw (p.1, p.2) (captured_breaks kept c.args.sites.now c.next.new.self source e (next_breaks captured_rules kept Is64 b64 IsUow uow_spelling c.args.sites.now c.next.new.self source areas.Uow 0 (b64 c.args.point) (reads_of_one 1 source areas.Uow) e (λ bytes h. h) (λ bytes h. h) c.in_err-next.ensures.fault))

pub returns-in_default-clause-unit : goal.returns-in_default-clause-unit
returns-in_default-clause-unit g c = λ w k sound placed reveals.
    let set = c.args.set.now in
    none_read w k set (sees g.K.Keeper.kept c.args.sites.now set.source) c.args.point c.ranges.point.fits sound placed reveals (rw c.in_default.is at c.in_ok-next.ensures.row)

pub returns-clause-unit : goal.returns-clause-unit
returns-clause-unit g c = λ w k sound placed reveals.
    let set = c.args.set.now in
    let follows = rw c.in-Some.is at c.in_ok-next.ensures.rises in
    unit_read w k set (sees g.K.Keeper.kept c.args.sites.now set.source) c.args.point c.ranges.point.fits sound placed reveals c.in-Some.seq c.in-Some.row follows.fits follows.row.fits (rw c.in-Some.is at c.in_ok-next.ensures.row)

pub returns-clause-rises : goal.returns-clause-rises
returns-clause-rises g c =
    let follows = rw c.in-Some.is at c.in_ok-next.ensures.rises in
    key_less b64 (2 ^ 64) numbers_in_order c.args.point c.in-Some.seq c.ranges.point.fits follows.fits follows.above
