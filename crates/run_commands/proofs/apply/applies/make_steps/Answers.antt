use Rattle.std.proofs.Common.{◌≡◌, ◌∙◌, ◌≤◌, refl, sym, subst, arith}
use Rattle.std.proofs.lemmas.Result.{err_from_is_err_and}
use Rattle.world_store.specs.Words.{Stands}
use Rattle.site_store.specs.Words.{names, held, keeps_itself, keeps_then}
use Rattle.repl_model.specs.Words.{World}
use Rattle.run_core.specs.Runs.{last_world}
use Rattle.run_commands.specs.parts.laws.Composing.{part_err, part_ended}
use Rattle.run_commands.specs.parts.laws.Exits.{if_err_also}
use Rattle.run_commands.specs.parts.laws.Parts.{output_reads, later_cause}
use Rattle.run_commands.specs.apply.StepEvents.{apply_events}
use Rattle.run_commands.proofs.Applying.{applies_first, made_more, ended_refused, stopped_in_step, ended_rested, stopped_at_count, never_all}
use Rattle.run_commands.specs.apply.Progress.{TakesStep, TakesSteps, no_steps, one_more}
use Rattle.run_commands.proofs.ToldSteps.{tells_none}
use Rattle.run_commands.proofs.NamedSteps.{stands_there, stopped_there, made_there}
use Rattle.run_commands.proofs.apply.applies.make_steps.Goals as goal

pub loop-steps-init : goal.loop-steps-init
loop-steps-init g c =
    let kept = g.K.Keeper.kept in
    let s0 = c.args.sites.now in
    record {
      applies = λ w stands. let k = c.requires.most w stands in applies_first (Stands (names s0)) c.args.number c.args.id.now c.args.most w (g.O.Sink.taken c.args.output.now) (held kept s0) k.0 stands k.1 k.2;
      told = no_steps (g.O.Sink.taken c.args.output.now);
      servers = keeps_itself kept s0 c.requires.closed;
      counts = omega arith;
    }

pub make_step-requires : goal.make_step-requires
make_step-requires g c = c.loop-steps.invariant.servers.closed

pub returns-in_err-make_step : goal.returns-in_err-make_step
returns-in_err-make_step g c =
    let kept = g.K.Keeper.kept in
    let s0 = c.args.sites.now in
    let s1 = c.loop-steps.sites in
    let s2 = c.make_step.new.sites in
    let inv = c.loop-steps.invariant in
    let number = c.args.number in
    let id = c.args.id.now in
    let t = g.O.Sink.taken c.args.output.now in
    let u = g.O.Sink.taken c.loop-steps.output in
    let u2 = g.O.Sink.taken c.make_step.new.output in
    let e = c.in_err-make_step.field-0.0 in
    let part = c.in_err-make_step.ensures.part in
    let r = c.from_residual.result in
    let is = c.from_residual.ensures.1 in
    let p = err_from_is_err_and r is in
    record {
      part = part_err r is (record {
        ok = tt;
        stopped = λ w stands.
            let at = inv.applies w stands in
            let v = last_world w at.done in
            stopped_in_step (Stands (names s0)) number id c.args.most w t c.loop-steps.steps c.loop-steps-test.true (held kept s1) u at (held kept s2) u2
            (stopped_there kept s0 s1 s2 inv.servers.names number id v u u2 (part.stopped v (stands_there kept s0 s1 s2 inv.servers.names number id v at.stands)));
        servers = keeps_then kept s0 s1 s2 inv.servers part.servers;
        cause = later_cause kept s0 s1 s2 (g.O.Sink.faults c.args.output.now) (g.O.Sink.faults c.loop-steps.output) (g.O.Sink.faults c.make_step.new.output) e inv.servers
            (λ w stands. let at = inv.applies w stands in (last_world w at.done, at.stands)) inv.counts part.cause;
        counts = omega (arith, inv.counts, part.counts);
      });
      no_rest = rw (p.1, p.2) (tells_none t u2 c.args.source e c.in_err-make_step.ensures.read);
    }

pub returns-in-Refused : goal.returns-in-Refused
returns-in-Refused g c =
    let kept = g.K.Keeper.kept in
    let s0 = c.args.sites.now in
    let s1 = c.loop-steps.sites in
    let s2 = c.make_step.new.sites in
    let inv = c.loop-steps.invariant in
    let number = c.args.number in
    let id = c.args.id.now in
    let t = g.O.Sink.taken c.args.output.now in
    let u = g.O.Sink.taken c.loop-steps.output in
    let u2 = g.O.Sink.taken c.make_step.new.output in
    let part = c.in_ok-make_step.ensures.part in
    let came = λ (v : World). made_there kept s0 s1 s2 inv.servers.names number id v part c.in_ok-make_step.ensures.progress in
    record {
      part = record {
        ok = λ w stands.
            let at = inv.applies w stands in
            let one = came (last_world w at.done) at.stands in
            ended_refused (Stands (names s0)) number id c.args.most w t c.loop-steps.steps c.loop-steps-test.true (held kept s1) u at (held kept s2) u2 one.0 (sym c.in-Refused.is ∙ one.1);
        stopped = tt;
        servers = keeps_then kept s0 s1 s2 inv.servers part.servers;
        cause = tt;
        counts = omega (arith, inv.counts, part.counts);
      };
      no_rest = tt;
    }

pub loop-steps-preserved : goal.loop-steps-preserved
loop-steps-preserved g c =
    let kept = g.K.Keeper.kept in
    let s0 = c.args.sites.now in
    let s1 = c.loop-steps.sites in
    let s2 = c.make_step.new.sites in
    let inv = c.loop-steps.invariant in
    let number = c.args.number in
    let id = c.args.id.now in
    let t = g.O.Sink.taken c.args.output.now in
    let u = g.O.Sink.taken c.loop-steps.output in
    let u2 = g.O.Sink.taken c.make_step.new.output in
    let part = c.in_ok-make_step.ensures.part in
    let came = λ (v : World). made_there kept s0 s1 s2 inv.servers.names number id v part c.in_ok-make_step.ensures.progress in
    let line = subst (TakesStep u u2) c.in-Made.is c.in_ok-make_step.ensures.lines in
    record {
      applies = λ w stands.
          let at = inv.applies w stands in
          let one = came (last_world w at.done) at.stands in
          made_more (Stands (names s0)) number id c.args.most w t c.loop-steps.steps c.loop-steps-test.true (held kept s1) u at (held kept s2) u2 (λ h x there. there.sound) one.0 (sym c.in-Made.is ∙ one.1);
      told = one_more t u u2 c.loop-steps.steps line.0 inv.told line.1 line.2;
      servers = keeps_then kept s0 s1 s2 inv.servers part.servers;
      counts = omega (arith, inv.counts, part.counts);
    }

pub returns-in-Rested : goal.returns-in-Rested
returns-in-Rested g c =
    let kept = g.K.Keeper.kept in
    let s0 = c.args.sites.now in
    let s1 = c.loop-steps.sites in
    let s2 = c.make_step.new.sites in
    let inv = c.loop-steps.invariant in
    let number = c.args.number in
    let id = c.args.id.now in
    let t = g.O.Sink.taken c.args.output.now in
    let u = g.O.Sink.taken c.loop-steps.output in
    let u2 = g.O.Sink.taken c.make_step.new.output in
    let part = c.in_ok-make_step.ensures.part in
    let came = λ (v : World). made_there kept s0 s1 s2 inv.servers.names number id v part c.in_ok-make_step.ensures.progress in
    let wrote = c.write_applied.ensures in
    let u3 = g.O.Sink.taken c.write_applied.new.output in
    record {
      part = part_ended wrote (apply_events number id) (λ refused. refused) (keeps_then kept s0 s1 s2 inv.servers part.servers) (omega (arith, inv.counts, part.counts))
          (λ took w stands.
          let at = inv.applies w stands in
          let one = came (last_world w at.done) at.stands in
          ended_rested (Stands (names s0)) number id c.args.most w t c.loop-steps.steps c.loop-steps-test.true (held kept s1) u at (held kept s2) u2 one.0 (sym c.in-Rested.is ∙ one.1) u3 took)
          (λ took w stands.
          let at = inv.applies w stands in
          let one = came (last_world w at.done) at.stands in
          stopped_at_count (Stands (names s0)) number id c.args.most w t c.loop-steps.steps c.loop-steps-test.true (held kept s1) u at (held kept s2) u2 one.0 (sym c.in-Rested.is ∙ one.1) u3 took);
      no_rest = if_err_also c.write_applied.result (λ e out. tells_none t u3 c.args.source e (output_reads (g.O.Sink.faults c.make_step.new.output) (g.O.Sink.faults c.write_applied.new.output) e out)) wrote.cause;
    }

pub returns : goal.returns
returns g c =
    let kept = g.K.Keeper.kept in
    let s0 = c.args.sites.now in
    let s1 = c.loop-steps.sites in
    let inv = c.loop-steps.invariant in
    let n = c.loop-steps.steps in
    let t = g.O.Sink.taken c.args.output.now in
    let u = g.O.Sink.taken c.loop-steps.output in
    let le : c.args.most ≤ n = omega (arith, c.loop-steps-test.false) in
    let all : n ≡ c.args.most = omega (arith, c.loop-steps-test.false, c.loop-steps.auto.steps-end) in
    let never = λ (w : World) (stands : Stands (names s0) (held kept s0) w). never_all (Stands (names s0)) c.args.number c.args.id.now c.args.most w t n le (held kept s1) u (inv.applies w stands) in
    record {
      part = record {
        ok = tt;
        stopped = λ w stands. absurd (never w stands);
        servers = inv.servers;
        cause = record {
          streams = tt;
          servers = record { server = c.requires.source; read = λ read. absurd read; shown = λ read. absurd read; rest = λ unread. refl; unsound = never };
        };
        counts = inv.counts;
      };
      no_rest = (refl, refl, subst (TakesSteps t u) all inv.told);
    }
