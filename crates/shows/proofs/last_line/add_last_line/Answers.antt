use Rattle.std.proofs.Common.{◌<◌, ◌++◌, ℕ, List, length, sym, ap, subst, ◌∙◌, arith, Option, IfSome}
use Rattle.world_store.specs.Words.{single_spelling, head_spelling, IsHead, capture_spelling, IsCapture, first_capture}
use Rattle.site_store.specs.Words.{Contents, names, StateIs, reads_of_one, get_fails, stays_sees}
use Rattle.repl_types.specs.declared.area.Area.TheVariants as areas
use Rattle.shows.specs.servers.Rules.{rules, reads_at}
use Rattle.shows.proofs.Contents.{last_read}
use Rattle.shows.proofs.ReadingOne.{one_at, one_more, fails_on}
use Rattle.shows.proofs.Passed.{passed}
use Rattle.shows.proofs.last_line.add_last_line.Goals as goal

pub returns-in_err-head-clause-fault : goal.returns-in_err-head-clause-fault
returns-in_err-head-clause-fault g c =
    let s0 = c.args.sites.now in
    passed c.from_residual.result _ _ c.from_residual.ensures.1 (get_fails g.K.Keeper.kept IsHead head_spelling (λ s. s < length (names s0)) rules s0 c.get_state.new.self c.args.server areas.Head 0 (single_spelling (record {})) (reads_at 2 c.args.server) c.in_err-head.field-0.0 c.requires.server (λ bytes h. h) (one_at 1 2 c.args.server areas.Head (omega arith)) c.in_err-head.ensures.fault)

pub returns-in_err-capture-clause-fault : goal.returns-in_err-capture-clause-fault
returns-in_err-capture-clause-fault g c =
    let kept = g.K.Keeper.kept in
    let s1 = c.get_state.new.self in
    let stays = c.in_ok-head.ensures.ok.stays in
    passed c.from_residual-in_err-capture.result _ _ c.from_residual-in_err-capture.ensures.1 (fails_on kept c.args.sites.now s1 c.get_state-2.new.self (reads_of_one 1 c.args.server areas.Head) (reads_at 1 c.args.server) (reads_at 2 c.args.server) c.in_err-capture.field-0.0 (one_more 1 1 2 c.args.server areas.Head (omega arith)) stays
    (get_fails kept IsCapture capture_spelling (λ s. s < length (names s1)) rules s1 c.get_state-2.new.self c.args.server areas.Capture 0 (single_spelling (record {})) (reads_at 1 c.args.server) c.in_err-capture.field-0.0 (subst (λ (l : List (List ℕ)). c.args.server < length l) (sym stays.passes.names) c.requires.server) (λ bytes h. h) (one_at 1 1 c.args.server areas.Capture (omega arith)) c.in_err-capture.ensures.fault))

pub returns-clause-added : goal.returns-clause-added
returns-clause-added g c = λ w is_world.
    let kept = g.K.Keeper.kept in
    let s0 = c.args.sites.now in
    let same = stays_sees kept s0 c.get_state.new.self (reads_of_one 1 c.args.server areas.Head) c.in_ok-head.ensures.ok.stays c.args.server in
    c.in_ok-write_reply.ensures
    ∙ ap (λ (l : List ℕ). c.args.text.now.items ++ l) (last_read kept s0 c.requires.closed w is_world c.args.server c.requires.server c.in_ok-head.head c.in_ok-capture.capture (c.in_ok-head.ensures.fits (omega arith, omega arith, omega arith)) c.in_ok-head.ensures.state (subst (λ (o : Option Contents). IfSome o (StateIs capture_spelling areas.Capture 0 (single_spelling (record {})) first_capture c.in_ok-capture.capture)) same c.in_ok-capture.ensures.state))
