use Rattle.std.proofs.Common.{◌≡◌, ◌∙◌, ap, refl, sym}
use Rattle.world_store.specs.Words.{Stands}
use Rattle.site_store.specs.Words.{names, held}
use Rattle.repl_model.specs.Words.{World}
use Rattle.stored_defs.specs.Rules.{rules as stored_rules, ShowsDamage}
use Rattle.run_commands.specs.apply.Progress.{TakesStep, is_refusal, progress_of, step_of}
use Rattle.run_commands.specs.apply.StepEvents.{outcome}
use Rattle.run_commands.specs.parts.laws.Composing.{answered, part_as, part_looked, part_refused, reads_failed}
use Rattle.run_commands.specs.parts.laws.Damage.{all_shown, stored_shown}
use Rattle.run_commands.specs.parts.laws.Exits.{if_err_also, ok_also}
use Rattle.run_commands.specs.parts.laws.Looking.{closed_after, looked_stands, stood_before, stops_run, stops_reads}
use Rattle.run_commands.specs.parts.laws.Parts.{output_reads}
use Rattle.run_commands.proofs.MadeSteps.{known_none, known_some, placed_some, unknown_declined, known_outcome}
use Rattle.run_commands.proofs.apply.steps.make_step.Goals as goal

-- the set wasn't looked for to the end
pub find_set-requires : goal.find_set-requires
find_set-requires g c = record { closed = c.requires }

pub error_of_fault-requires : goal.error_of_fault-requires
error_of_fault-requires g c = stops_run g.K.Keeper.kept c.args.sites.now c.find_set.new.sites (ShowsDamage g.K.Keeper.kept c.args.sites.now) (all_shown g.K.Keeper.kept c.args.sites.now stored_rules stored_shown) c.in-Err.fault c.in-Err.ensures.fault

pub returns-in-Err : goal.returns-in-Err
returns-in-Err g c =
    let s0 = c.args.sites.now in
    let s1 = c.find_set.new.sites in
    let shown = all_shown g.K.Keeper.kept s0 stored_rules stored_shown in
    let e = c.in-Err.fault in
    let f = c.in-Err.ensures.fault in
    let error = c.error_of_fault.result in
    let is = c.error_of_fault.ensures in
    record {
      part = reads_failed {s0 = s0} {s1 = s1} {damage = ShowsDamage g.K.Keeper.kept s0} shown e f c.requires c.in-Err.ensures.closed c.in-Err.ensures.undamaged (λ w. step_of (outcome c.args.number c.args.id.now w)) is_refusal error is;
      progress = tt;
      lines = tt;
      read = stops_reads g.K.Keeper.kept s0 s1 (ShowsDamage g.K.Keeper.kept s0) shown e f error is;
    }

-- a set has the name
pub step_found-requires : goal.step_found-requires
step_found-requires g c =
    let kept = g.K.Keeper.kept in
    let s1 = c.find_set.new.sites in
    record {
      placed = placed_some kept s1 c.in-Ok.ensures.placed c.in-Some.set c.in-Some.is;
      closed = closed_after kept c.args.sites.now s1 c.in-Ok.ensures.ok c.requires;
    }

pub returns-in-Some : goal.returns-in-Some
returns-in-Some g c =
    let kept = g.K.Keeper.kept in
    let s0 = c.args.sites.now in
    let s1 = c.find_set.new.sites in
    let looks = c.in-Ok.ensures.ok in
    let number = c.args.number in
    let id = c.args.id.now in
    let set = c.in-Some.set in
    let made = c.step_found.ensures in
    let known = known_some kept s0 id c.in-Ok.ensures.known set c.in-Some.is in
    record {
      part = part_looked looks c.requires (made.part (λ w. step_of (outcome number id w)) (λ w stands. let one = known w (stood_before kept s0 s1 looks w stands) in (one.0, one.2, ap step_of (known_outcome number id w set one))));
      progress = ok_also c.step_found.result (λ progress same w stands. let one = known w stands in same w one.0 (looked_stands kept s0 s1 looks w stands) one.2 ∙ sym (ap progress_of (known_outcome number id w set one))) made.progress;
      lines = made.lines;
      read = made.read;
    }

-- no set has it
pub returns-in-None : goal.returns-in-None
returns-in-None g c =
    let kept = g.K.Keeper.kept in
    let s0 = c.args.sites.now in
    let s1 = c.find_set.new.sites in
    let looks = c.in-Ok.ensures.ok in
    let number = c.args.number in
    let id = c.args.id.now in
    let r = c.refuse_unknown.result in
    let wrote = c.refuse_unknown.ensures in
    let known = known_none kept s0 id c.in-Ok.ensures.known c.in-None.is in
    record {
      part = part_looked looks c.requires (part_as (λ w. step_of (outcome number id w)) (λ w stands. sym (ap step_of (unknown_declined number id w (known w (stood_before kept s0 s1 looks w stands)))))
          (part_refused is_refusal (closed_after kept s0 s1 looks c.requires) refl wrote));
      progress = answered (λ progress. (w : World) → Stands (names s0) (held kept s0) w → progress ≡ progress_of (outcome number id w)) r wrote.line (λ w stands. sym (ap progress_of (unknown_declined number id w (known w stands))));
      lines = answered (TakesStep (g.O.Sink.taken c.args.output.now) (g.O.Sink.taken c.refuse_unknown.new.output)) r wrote.line tt;
      read = if_err_also r (output_reads (g.O.Sink.faults c.args.output.now) (g.O.Sink.faults c.refuse_unknown.new.output)) wrote.line.cause;
    }
