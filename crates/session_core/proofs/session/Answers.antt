use Rattle.std.proofs.Common.{◌≡◌, ◌∙◌, ap, subst}
use Rattle.world_store.specs.Words.{Stands}
use Rattle.site_store.specs.Words.{names, held, keeps_itself}
use Rattle.run_core.specs.Runs.{Went, Stopped, is_refused}
use Rattle.run_words.specs.declared.opening.Opening.{Opening}
use Rattle.run_commands.specs.parts.ExitStatus.{status_of_done}
use Rattle.session_core.specs.Session.{run_events, Ran}
use Rattle.session_core.specs.Inputs.{OfInput}
use Rattle.session_core.proofs.ReadInputs.{of_input_also, nothing_read}
use Rattle.session_core.proofs.session.Goals as goal

pub returns-in-Err-Memory-clause-stopped : goal.returns-in-Err-Memory-clause-stopped
returns-in-Err-Memory-clause-stopped g c = λ e opening w asks at. nothing_read (Stands (names c.args.sites.now)) (g.I.Source.left c.args.input.now) (run_events opening) w (held g.K.Keeper.kept c.args.sites.now) (g.O.Sink.taken c.args.output.now) at

pub returns-clause-stopped : goal.returns-clause-stopped
returns-clause-stopped g c = λ e other w asks at.
    let given = names c.args.sites.now in
    let same : c.in-Ok.opening ≡ other = c.one_opening_of_words.ensures _ c.in-Ok.opening other c.in-Ok.ensures.ok.words asks.words in
    subst (λ (o : Opening). OfInput (g.I.Source.left c.args.input.now) (λ bytes. Stopped (Stands given) (run_events o bytes w) w (held g.K.Keeper.kept c.run_opening.new.sites) (g.O.Sink.taken c.args.output.now) (g.O.Sink.taken c.run_opening.new.output))) same
    (c.in-Err.ensures.stopped w at)

pub returns-in-Ok-run_opening-clause-done : goal.returns-in-Ok-run_opening-clause-done
returns-in-Ok-run_opening-clause-done g c = λ is other w asks at.
    let given = names c.args.sites.now in
    let opening = c.in-Ok.opening in
    let h = held g.K.Keeper.kept c.run_opening.new.sites in
    let t = g.O.Sink.taken c.args.output.now in
    let u = g.O.Sink.taken c.run_opening.new.output in
    let refused = c.in-Ok-run_opening.refused in
    let same : opening ≡ other = c.one_opening_of_words.ensures _ opening other c.in-Ok.ensures.ok.words asks.words in
    of_input_also (g.I.Source.left c.args.input.now) (λ bytes. Went (Stands given) (run_events opening bytes w) w h t u × (refused ≡ is_refused (run_events opening bytes w))) (λ bytes. Ran (Stands given) (run_events other bytes w) w h t u c.done_status.result)
    (λ bytes here. subst (λ (o : Opening). Ran (Stands given) (run_events o bytes w) w h t u c.done_status.result) same (record { went = here.0; status = c.done_status.ensures ∙ ap status_of_done here.1 }))
    (c.in-Ok-run_opening.ensures.ok w at)

-- words that ask for nothing are told apart before anything is done
pub returns-in-Ok-run_opening-clause-same : goal.returns-in-Ok-run_opening-clause-same
returns-in-Ok-run_opening-clause-same g c = λ none. absurd (none c.in-Ok.opening c.in-Ok.ensures.ok)

pub returns-clause-same : goal.returns-clause-same
returns-clause-same g c = λ none. absurd (none c.in-Ok.opening c.in-Ok.ensures.ok)

pub returns-in-Err-Usage-clause-servers : goal.returns-in-Err-Usage-clause-servers
returns-in-Err-Usage-clause-servers g c = keeps_itself g.K.Keeper.kept c.args.sites.now c.requires

pub returns-in-Err-Memory-clause-servers : goal.returns-in-Err-Memory-clause-servers
returns-in-Err-Memory-clause-servers g c = keeps_itself g.K.Keeper.kept c.args.sites.now c.requires
