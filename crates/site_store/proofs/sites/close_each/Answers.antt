use Rattle.std.proofs.Common.{◌≡◌, ◌<◌, get_or, ap, ◌∙◌, below_more, length, arith, None}
use Rattle.keep_core.specs.Kept.{Kept}
use Rattle.site_store.proofs.Replaced.{names_stay, stays, has, has_else, none_fell}
use Rattle.site_store.proofs.sites.close_each.Goals as goal

pub loop-site-preserved : goal.loop-site-preserved
loop-site-preserved g c =
    let k = g.K.Keeper.kept in
    let xs = c.loop-site.list in
    let s = c.loop-site.site-index in
    let site = get_or xs s c.site-item.result in
    let lt : s < length xs = omega arith in
    let is : site ≡ get_or xs s site = ap (get_or xs s) c.site-item.is in
    let new = c.rollback.new.self in
    let e = c.rollback.ensures.now in
    let i = c.loop-site.invariant in record {
      names = names_stay k xs s site lt is new ∙ i.names;
      held = stays k xs s site lt is new (λ x. x.held) (ap (λ (x : Kept). x.held) e) ∙ i.held;
      faults = λ q. omega (arith, i.faults q, none_fell k xs s site lt is new (λ x. x.faults) c.rollback.ensures.later q);
      reads = λ a. stays k xs s site lt is new (λ x. x.reads a) (ap (λ (x : Kept). x.reads a) e) ∙ i.reads a;
      writes = λ a. stays k xs s site lt is new (λ x. x.writes a) (ap (λ (x : Kept). x.writes a) e) ∙ i.writes a;
      closed = below_more _ _ (λ q lq. has_else k xs s site lt is new (λ x. x.open_work) None q (omega arith) ∙ i.closed q lq) (has k xs s site lt is new (λ x. x.open_work) None ∙ ap (λ (x : Kept). x.open_work) e);
    }
