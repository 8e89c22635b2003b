use Rattle.std.proofs.Common.{◌∙◌, ap, sym, subst}
use Rattle.std.specs.Prelude.{IfSome}
use Rattle.keep_core.specs.declared.keeper.KeepError.TheVariants.{Memory}
use Rattle.keep_core.specs.Kept.{Kept, Found, after_read, closed_with}
use Rattle.keep_map.specs.Keepers.{count_of, kept_of}
use Rattle.keep_map.specs.Merged.{values_seen, values_held}
use Rattle.keep_map.specs.Places.{contents_of}
use Rattle.keep_map.proofs.Failures.{caused, call_failed}
use Rattle.keep_map.proofs.KeptFrom.{kept_from, no_fault, seen_is}
use Rattle.keep_map.proofs.map_keeper.MapKeeperKeeper.get.Goals as goal

pub returns-then-call_fails-clause-err : goal.returns-then-call_fails-clause-err
returns-then-call_fails-clause-err c =
    let old : Kept = after_read (kept_of c.args.self.now) c.args.area in
    let plan = c.call_fails.new.plan in
    call_failed old (kept_of c.rollback.new.self) plan.faults _ (c.rollback.ensures.kept ∙ (λ i. closed_with (record old { reads = c.bump.ensures i }) plan.faults))
    (caused c.args.self.now.plan plan (sym c.if-call_fails.ensures.fails) c.call_fails.ensures.counted c.call_fails.ensures.later)

pub returns-in-Ok-clause-ok : goal.returns-in-Ok-clause-ok
returns-in-Ok-clause-ok c =
    let m = c.args.self.now in
    let faults = no_fault m.plan c.call_fails.new.plan c.call_fails.ensures.counted (sym c.call_fails.ensures.fails ∙ c.if-call_fails.false) in
    λ i. kept_from (contents_of (c.get.ensures.held i)) (contents_of (c.get.ensures.seen i)) m.is_open (faults i) (c.bump.ensures i) (count_of m.writes)

pub returns-in-Ok-clause-found : goal.returns-in-Ok-clause-found
returns-in-Ok-clause-found c =
    let m = c.args.self.now in
    subst (λ s. IfSome s (Found c.args.area c.args.table c.args.key.now c.in-Ok.found c.get.new.out.items))
    (sym (seen_is (contents_of (values_held m.rows)) (contents_of (values_seen m.rows)) m.is_open (λ e. ap contents_of (m.idle e)))) c.in-Ok.ensures.found

pub returns-in-Err-clause-err : goal.returns-in-Err-clause-err
returns-in-Err-clause-err c =
    let m = c.args.self.now in
    let old : Kept = after_read (kept_of m) c.args.area in
    let plan = c.call_fails.new.plan in
    call_failed old (kept_of c.rollback-in-Err.new.self) plan.faults Memory
    (c.rollback-in-Err.ensures.kept ∙ (λ i. closed_with (kept_from (contents_of (c.get.ensures.held i)) (contents_of (values_seen m.rows)) m.is_open plan.faults (c.bump.ensures i) (count_of m.writes)) plan.faults))
    (record { later = c.call_fails.ensures.later; failed = λ e. absurd cc })
