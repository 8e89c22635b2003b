use Rattle.std.proofs.Common.{◌≡◌, ap, arith}
use Rattle.world_store.specs.Words.{capture_spelling, IsCapture, single_spelling, CaptureState}
use Rattle.site_store.specs.Words.{reads_of_one, Damages, sees, get_breaks}
use Rattle.repl_types.specs.declared.area.Area.TheVariants as areas
use Rattle.subs_sets.specs.Rules.{captured_rules, source_rules}
use Rattle.subs_sets.proofs.JoinedRules.{captured_breaks}
use Rattle.subs_sets.proofs.NoDamage.{stops_closed}
use Rattle.subs_sets.proofs.StoredCapture.{capture_is}
use Rattle.subs_sets.proofs.captured.captured_point.Goals as goal

pub returns-in-Ok-clause-point : goal.returns-in-Ok-clause-point
returns-in-Ok-clause-point g c = λ w k sound placed reveals.
    let kept = g.K.Keeper.kept in
    let set = c.args.set.now in
    ap (λ (s : CaptureState). s.captured) (capture_is w k set (sees kept c.args.sites.now set.source) c.in-Ok.capture sound placed reveals (c.in-Ok.ensures.fits (omega arith, omega arith, omega arith)) c.in-Ok.ensures.state)

pub returns-in-Err-clause-fault : goal.returns-in-Err-clause-fault
returns-in-Err-clause-fault g c =
    let kept = g.K.Keeper.kept in
    let s0 = c.args.sites.now in
    let s1 = c.get_state.new.self in
    let source = c.args.set.now.source in
    let e = c.in-Err.e in
    stops_closed kept s0 s1 c.rollback_all.new.self (Damages (λ s. s ≡ source) source_rules kept s0) e
    (captured_breaks kept s0 s1 source e (get_breaks captured_rules kept IsCapture capture_spelling s0 s1 source areas.Capture 0 (single_spelling (record {})) (reads_of_one 1 source areas.Capture) e (λ bytes h. h) c.in-Err.ensures.fault))
    c.rollback_all.ensures
