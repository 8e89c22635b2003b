use Rattle.std.proofs.Common.{◌≡◌, sym, subst, ◌∙◌}
use Rattle.std.proofs.lemmas.Result.{err_from_is_err_and}
use Rattle.world_store.specs.Words.{single_spelling, IsCapture, capture_spelling, CaptureState}
use Rattle.site_store.specs.Words.{no_access, reads_of_one, both, at_most_itself, passes_then, get_breaks}
use Rattle.repl_types.specs.declared.area.Area.TheVariants as areas
use Rattle.capture_core.specs.Committing.{Opens, ReadsState, StateIn}
use Rattle.capture_core.specs.Rules.{rules}
use Rattle.capture_core.proofs.Calls.{breaks_begun}
use Rattle.capture_core.proofs.Working.{working_begun, working_saw}
use Rattle.capture_core.proofs.committing.begin_capture.Goals as goal

pub returns-in_err-state-clause-fault : goal.returns-in_err-state-clause-fault
returns-in_err-state-clause-fault g c =
    let kept = g.K.Keeper.kept in
    let s1 = c.begin.new.self in
    let s2 = c.get_state.new.self in
    let e = c.in_err-state.field-0.0 in
    let p = err_from_is_err_and c.from_residual-in_err-state.result c.from_residual-in_err-state.ensures.1 in
    rw (p.1, p.2) (breaks_begun kept c.args.sites.now s1 s2 c.args.server c.requires.closed c.requires.server c.in_ok-begin.ensures.ok e (get_breaks rules kept IsCapture capture_spelling s1 s2 c.args.server areas.Capture 0 (single_spelling (record {})) (reads_of_one 1 c.args.server areas.Capture) e (λ bytes h. h.0) c.in_err-state.ensures.fault))

pub returns-clause-ok : goal.returns-clause-ok
returns-clause-ok g c =
    let kept = g.K.Keeper.kept in
    let s0 = c.args.sites.now in
    let s1 = c.begin.new.self in
    let s2 = c.get_state.new.self in
    let n = c.args.server in
    let begun = c.in_ok-begin.ensures.ok in
    let reads = c.in_ok-state.ensures.ok in
    let most = reads_of_one 1 n areas.Capture in
    subst (λ (state : CaptureState). Opens kept s0 s2 n (ReadsState state)) (sym c.start_at.ensures.state) (record {
      most = both no_access most;
      passes = passes_then kept s0 s1 s2 no_access most (both no_access most) begun.passes reads.stays.passes (at_most_itself (both no_access most));
      held = reads.stays.held ∙ begun.held;
      working = working_saw kept s1 n (λ d e. e ≡ d) (working_begun kept s0 s1 n c.requires.closed c.requires.server begun) s2 (StateIn c.in_ok-state.state) (record { most = most; stays = reads.stays }) c.in_ok-state.ensures.state;
    })
