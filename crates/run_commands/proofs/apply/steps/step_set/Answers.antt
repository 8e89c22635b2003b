use Rattle.std.proofs.Common.{◌∙◌, [], true, false, ap, refl, sym}
use Rattle.world_store.specs.Words.{Stands}
use Rattle.site_store.specs.Words.{names, held}
use Rattle.repl_types.specs.declared.fault.Stepped.TheVariants as steps
use Rattle.reply_text.specs.Steps.{step_line}
use Rattle.run_commands.specs.apply.Progress.{is_refusal}
use Rattle.run_commands.specs.apply.StepEvents.{outcome, step_events}
use Rattle.run_commands.specs.parts.laws.Composing.{part_as, part_err, part_gives, part_replied, part_then}
use Rattle.run_commands.proofs.StepEnds.{stopped_end, refused_end, made_end, rested_end}
use Rattle.run_commands.proofs.apply.steps.step_set.Goals as goal

pub returns-in_err-progress : goal.returns-in_err-progress
returns-in_err-progress g c =
    let part = c.in_err-progress.ensures.part in
    let s0 = c.args.sites.now in
    let t = g.O.Sink.taken c.args.output.now in
    let u = g.O.Sink.taken c.make_step.new.output in
    part_err c.from_residual.result c.from_residual.ensures.1 (record {
      ok = tt;
      stopped = λ w stands. stopped_end (step_line [] steps.Idle) (Stands (names s0)) w (held g.K.Keeper.kept c.make_step.new.sites) t u (outcome c.args.number c.args.id.now w) (part.stopped w stands);
      servers = part.servers;
      cause = part.cause;
      counts = part.counts;
    })

pub returns-in-Refused : goal.returns-in-Refused
returns-in-Refused g c =
    let number = c.args.number in
    let id = c.args.id.now in
    part_as (step_events number id) (λ w stands. refused_end (step_line [] steps.Idle) (outcome number id w) (sym c.in-Refused.is ∙ c.in_ok-progress.ensures.progress w stands))
    (part_gives (λ refused. refused) true (ap is_refusal c.in-Refused.is) c.in_ok-progress.ensures.part)

pub returns-in-Made : goal.returns-in-Made
returns-in-Made g c =
    let number = c.args.number in
    let id = c.args.id.now in
    part_as (step_events number id) (λ w stands. made_end (step_line [] steps.Idle) (outcome number id w) (sym c.in-Made.is ∙ c.in_ok-progress.ensures.progress w stands))
    (part_gives (λ refused. refused) false (ap is_refusal c.in-Made.is) c.in_ok-progress.ensures.part)

pub returns-in-Rested : goal.returns-in-Rested
returns-in-Rested g c =
    let number = c.args.number in
    let id = c.args.id.now in
    let part = part_gives (λ refused. refused) false (ap is_refusal c.in-Rested.is) c.in_ok-progress.ensures.part in
    part_as (step_events number id) (λ w stands. rested_end (step_line [] steps.Idle) (outcome number id w) (sym c.in-Rested.is ∙ c.in_ok-progress.ensures.progress w stands))
    (part_then part (part_replied (λ refused. refused) part.servers.closed refl c.write_idle.ensures))
