use Rattle.std.proofs.Common.{◌≡◌, ◌∙◌, true, false, ap, refl, sym}
use Rattle.run_commands.specs.apply.Progress.{TakesStep, is_refusal, progress_of, step_of}
use Rattle.run_commands.specs.apply.StepEvents.{is_carried_out, next_outcome}
use Rattle.run_commands.specs.parts.Found.{ForKnown}
use Rattle.run_commands.specs.parts.laws.Composing.{answered, part_as, part_refused}
use Rattle.run_commands.specs.parts.laws.Exits.{if_err_also, ok_also}
use Rattle.run_commands.specs.parts.laws.Parts.{output_reads}
use Rattle.run_commands.proofs.MadeSteps.{carried_on, uncarried_declined}
use Rattle.run_commands.proofs.apply.steps.step_found.Goals as goal

-- it isn't carried out
pub returns-then-not-is_carried_out : goal.returns-then-not-is_carried_out
returns-then-not-is_carried_out g c =
    let number = c.args.number in
    let set = c.args.set.now in
    let r = c.refuse_step.result in
    let wrote = c.refuse_step.ensures in
    let uncarried : is_carried_out set.at_target.def ≡ false = sym c.is_carried_out.ensures ∙ c.if-not-is_carried_out.true in
    record {
      part = λ events known. part_as events (λ w stands. let one = known w stands in sym (one.2 ∙ ap step_of (uncarried_declined number w one.0 set one.1 uncarried))) (part_refused is_refusal c.requires.closed refl wrote);
      progress = answered (λ progress. ForKnown g.K.Keeper.kept c.args.sites.now set (λ w k. progress ≡ progress_of (next_outcome number w k))) r wrote.line (λ w k stands placed. sym (ap progress_of (uncarried_declined number w k set placed uncarried)));
      lines = answered (TakesStep (g.O.Sink.taken c.args.output.now) (g.O.Sink.taken c.refuse_step.new.output)) r wrote.line tt;
      read = if_err_also r (output_reads (g.O.Sink.faults c.args.output.now) (g.O.Sink.faults c.refuse_step.new.output)) wrote.line.cause;
    }

-- it is
pub make_found-requires : goal.make_found-requires
make_found-requires g c = record {
  placed = c.requires.placed;
  carried_out = sym c.is_carried_out.ensures ∙ c.if-not-is_carried_out.false;
  closed = c.requires.closed;
}

pub returns : goal.returns
returns g c =
    let number = c.args.number in
    let set = c.args.set.now in
    let made = c.make_found.ensures in
    let carried : is_carried_out set.at_target.def ≡ true = sym c.is_carried_out.ensures ∙ c.if-not-is_carried_out.false in
    record {
      part = λ events known. made.part events (λ w stands. let one = known w stands in (one.0, one.1, one.2 ∙ ap step_of (carried_on number w one.0 set one.1 carried)));
      progress = ok_also c.make_found.result (λ progress same w k stands placed. same w k stands placed ∙ sym (ap progress_of (carried_on number w k set placed carried))) made.progress;
      lines = made.lines;
      read = made.read;
    }
