use Rattle.std.proofs.Common.{true, sym, ap, ◌∙◌}
use Rattle.std.specs.Prelude.{Option}
use Rattle.keep_core.specs.Contents.{Contents}
use Rattle.keep_map.specs.Keepers.{count_of, kept_of}
use Rattle.keep_map.specs.Merged.{values_held}
use Rattle.keep_map.specs.Places.{contents_of}
use Rattle.keep_map.proofs.Failures.{caused, call_failed}
use Rattle.keep_map.proofs.KeptFrom.{kept_from, no_fault, not_open}
use Rattle.keep_map.proofs.map_keeper.MapKeeperKeeper.begin.Goals as goal

pub returns-then-call_fails-clause-err : goal.returns-then-call_fails-clause-err
returns-then-call_fails-clause-err c =
    let old = kept_of c.args.self.now in
    let plan = c.call_fails.new.plan in
    call_failed old (record old { faults = plan.faults }) plan.faults _ (ap (λ (w : Option (Option Contents)). record old { open_work = w; faults = plan.faults }) c.requires)
    (caused c.args.self.now.plan plan (sym c.if-call_fails.ensures.fails) c.call_fails.ensures.counted c.call_fails.ensures.later)

pub returns-clause-ok : goal.returns-clause-ok
returns-clause-ok c =
    let m = c.args.self.now in
    let idle = m.idle (not_open m.is_open _ c.requires) in
    let faults = no_fault m.plan c.call_fails.new.plan c.call_fails.ensures.counted (sym c.call_fails.ensures.fails ∙ c.if-call_fails.false) in
    λ i. kept_from (contents_of (values_held m.rows)) (contents_of (sym idle i)) true (faults i) (count_of m.reads) (count_of m.writes)
