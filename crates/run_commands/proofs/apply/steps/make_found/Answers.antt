use Rattle.std.proofs.Common.{◌≡◌, ◌∙◌, ℕ, List, true, ap, subst, sym, arith}
use Rattle.world_store.specs.Words.{Stands}
use Rattle.site_store.specs.Words.{Takes, TakesPrefix, names, held}
use Rattle.repl_model.specs.Words.{Fault, at_place_in, next_action, World, KnownSet}
use Rattle.run_core.specs.Runs.{Event, Went, Stopped, is_refused}
use Rattle.set_places.specs.Places.{IsPlacedAs}
use Rattle.apply_cycle.specs.Stepping.{HasFailed}
use Rattle.run_commands.specs.apply.Progress.{TakesStep, is_refusal, line_told, progress_told}
use Rattle.run_commands.specs.apply.StepEvents.{outcome_of}
use Rattle.run_commands.specs.parts.laws.Composing.{answered, part_written}
use Rattle.run_commands.specs.parts.laws.Exits.{if_err_also, ok_also}
use Rattle.run_commands.specs.parts.laws.Parts.{output_reads}
use Rattle.run_commands.proofs.Applying.{not_replicas}
use Rattle.run_commands.proofs.FoundSets.{is_read_only, takes_each, may_have_made}
use Rattle.run_commands.proofs.Outcomes.{refuses_step, told_step, began_told, wrote_refusal, began_refusal, failed_step}
use Rattle.run_commands.proofs.StepDamage.{step_reads, step_cause}
use Rattle.run_commands.proofs.ToldSteps.{told_line}
use Rattle.set_places.specs.laws.Standing.{source_name}
use Rattle.run_commands.proofs.apply.steps.make_found.Goals as goal

pub step-requires-clause-read_only : goal.step-requires-clause-read_only
step-requires-clause-read_only g c = not_replicas c.args.set.now.at_target.def.members c.requires.carried_out

-- it was made, or there was nothing to do
pub returns-in-Ok : goal.returns-in-Ok
returns-in-Ok g c =
    let kept = g.K.Keeper.kept in
    let s0 = c.args.sites.now in
    let s1 = c.step.new.sites in
    let set = c.args.set.now in
    let carried = c.requires.carried_out in
    let stepped = c.in-Ok.stepped in
    let r = c.tell_step.result in
    let wrote = c.tell_step.ensures in
    let t = g.O.Sink.taken c.args.output.now in
    let u = g.O.Sink.taken c.tell_step.new.output in
    let made = λ (w : World) (k : KnownSet) (stands : Stands (names s0) (held kept s0) w) (placed : IsPlacedAs w k set). c.in-Ok.ensures.ok w k stands placed (is_read_only set carried w k placed) (takes_each set carried w k placed stands.sound) in
    let told = λ (w : World) (k : KnownSet) (stands : Stands (names s0) (held kept s0) w) (placed : IsPlacedAs w k set) (took : Takes t u (line_told set.at_source.def.source stepped)).
    told_step kept s0 s1 w k (at_place_in w set.source k.source placed.source) set.source t u stepped (made w k stands placed) (subst (λ (name : List ℕ). Takes t u (line_told name stepped)) (source_name w k set stands.sound placed) took) in
    record {
      part = λ events known. part_written wrote events is_refusal c.step.ensures.servers
          (λ took w stands.
          let one = known w stands in
          let came = told w one.0 stands one.1 took in
          subst (λ (es : List (Event World)). Went (Stands (names s0)) es w (held kept s1) t u × (is_refusal (progress_told stepped) ≡ is_refused es)) (sym one.2) (came.0, ap is_refusal came.1 ∙ refuses_step (outcome_of w one.0 (next_action one.0))))
          (λ took w stands.
          let one = known w stands in
          let k = one.0 in
          subst (λ (es : List (Event World)). Stopped (Stands (names s0)) es w (held kept s1) t u) (sym one.2)
          (began_told kept s0 s1 w k (at_place_in w set.source k.source one.1.source) set.source t u stepped (made w k stands one.1) (subst (λ (name : List ℕ). TakesPrefix t u (line_told name stepped)) (source_name w k set stands.sound one.1) took)));
      progress = ok_also r (λ progress took w k stands placed. took.0 ∙ (told w k stands placed took.1).1) wrote.ok;
      lines = ok_also r (λ progress took. told_line t u set.at_source.def.source stepped progress took.0 took.1) wrote.ok;
      read = if_err_also r (output_reads (g.O.Sink.faults c.args.output.now) (g.O.Sink.faults c.tell_step.new.output)) wrote.cause;
    }

-- it was refused
pub returns-in-Err-Refused : goal.returns-in-Err-Refused
returns-in-Err-Refused g c =
    let kept = g.K.Keeper.kept in
    let s0 = c.args.sites.now in
    let s1 = c.step.new.sites in
    let set = c.args.set.now in
    let carried = c.requires.carried_out in
    let refusal = c.in-Err-Refused.refusal in
    let r = c.refuse_step.result in
    let wrote = c.refuse_step.ensures in
    let t = g.O.Sink.taken c.args.output.now in
    let u = g.O.Sink.taken c.refuse_step.new.output in
    let failed = λ (w : World) (k : KnownSet) (stands : Stands (names s0) (held kept s0) w) (placed : IsPlacedAs w k set).
    subst (λ (e : Fault). HasFailed kept s0 s1 w k (next_action k) e) c.in-Err-Refused.field-0-is (c.in-Err-Refused.ensures.fault w k stands placed (is_read_only set carried w k placed) (takes_each set carried w k placed stands.sound)) in
    record {
      part = λ events known. part_written wrote.line events is_refusal c.step.ensures.servers
          (λ took w stands.
          let one = known w stands in
          let k = one.0 in
          let f = failed w k stands one.1 in
          let came = wrote_refusal kept s0 s1 w k (at_place_in w set.source k.source one.1.source) refusal t u f.0 f.1 took in
          subst (λ (es : List (Event World)). Went (Stands (names s0)) es w (held kept s1) t u × (true ≡ is_refused es)) (sym one.2) (came.0, ap is_refusal came.1 ∙ refuses_step (outcome_of w k (next_action k))))
          (λ took w stands.
          let one = known w stands in
          let k = one.0 in
          let f = failed w k stands one.1 in
          subst (λ (es : List (Event World)). Stopped (Stands (names s0)) es w (held kept s1) t u) (sym one.2) (began_refusal kept s0 s1 w k (at_place_in w set.source k.source one.1.source) refusal t u f.0 f.1 took));
      progress = ok_also r (λ progress took w k stands placed.
          let f = failed w k stands placed in
          took.0 ∙ (wrote_refusal kept s0 s1 w k (at_place_in w set.source k.source placed.source) refusal t u f.0 f.1 took.1).1) wrote.line.ok;
      lines = answered (TakesStep t u) r wrote.line tt;
      read = if_err_also r (output_reads (g.O.Sink.faults c.args.output.now) (g.O.Sink.faults c.refuse_step.new.output)) wrote.line.cause;
    }

-- it failed
pub returns-in-Err : goal.returns-in-Err
returns-in-Err g c =
    let kept = g.K.Keeper.kept in
    let s0 = c.args.sites.now in
    let s1 = c.step.new.sites in
    let set = c.args.set.now in
    let carried = c.requires.carried_out in
    let e = c.in-Err.fault in
    let error = c.error_of_fault.result in
    let is = c.error_of_fault.ensures in
    let keeps = c.step.ensures.servers in
    let count = g.O.Sink.faults c.args.output.now in
    let t = g.O.Sink.taken c.args.output.now in
    let may = λ (w : World) (k : KnownSet) (stands : Stands (names s0) (held kept s0) w) (placed : IsPlacedAs w k set).
    may_have_made kept s0 s1 w k e error is (c.in-Err.ensures.fault w k stands placed (is_read_only set carried w k placed) (takes_each set carried w k placed stands.sound)) in
    record {
      part = λ events known. record {
        ok = tt;
        stopped = λ w stands.
            let one = known w stands in
            let k = one.0 in
            subst (λ (es : List (Event World)). Stopped (Stands (names s0)) es w (held kept s1) t t) (sym one.2) (failed_step kept s0 s1 w k (at_place_in w set.source k.source one.1.source) e t (may w k stands one.1));
        servers = keeps;
        cause = step_cause kept s0 s1 set c.requires.placed c.requires.closed keeps count count e error is c.in-Err.ensures.blames (λ w stands. let one = known w stands in (may w one.0 stands one.1).undamaged);
        counts = omega arith;
      };
      progress = tt;
      lines = tt;
      read = step_reads kept s0 s1 set c.requires.placed c.requires.closed keeps e error is c.in-Err.ensures.blames;
    }
