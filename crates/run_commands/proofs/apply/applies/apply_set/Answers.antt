use Rattle.std.proofs.Common.{refl}
use Rattle.stored_defs.specs.Rules.{rules as stored_rules, ShowsDamage}
use Rattle.set_places.specs.laws.Staying.{placed_before}
use Rattle.run_commands.specs.apply.StepEvents.{apply_events}
use Rattle.run_commands.specs.parts.laws.Composing.{part_as, part_looked, part_refused, reads_failed}
use Rattle.run_commands.specs.parts.laws.Damage.{all_shown, stored_shown}
use Rattle.run_commands.specs.parts.laws.Exits.{if_err_also}
use Rattle.run_commands.specs.parts.laws.Looking.{closed_after, stood_before, stops_run, stops_reads}
use Rattle.run_commands.specs.parts.laws.Parts.{output_reads}
use Rattle.run_commands.proofs.FoundApplying.{unknown_applied}
use Rattle.run_commands.proofs.MadeSteps.{known_none, known_some, placed_some}
use Rattle.run_commands.proofs.apply.applies.apply_set.Goals as goal

-- the set wasn't looked for to the end
pub find_set-requires : goal.find_set-requires
find_set-requires g c = record { closed = c.requires }

pub error_of_fault-requires : goal.error_of_fault-requires
error_of_fault-requires g c = stops_run g.K.Keeper.kept c.args.sites.now c.find_set.new.sites (ShowsDamage g.K.Keeper.kept c.args.sites.now) (all_shown g.K.Keeper.kept c.args.sites.now stored_rules stored_shown) c.in-Err.fault c.in-Err.ensures.fault

pub returns-in-Err : goal.returns-in-Err
returns-in-Err g c =
    let s0 = c.args.sites.now in
    let s1 = c.find_set.new.sites in
    let shown = all_shown g.K.Keeper.kept s0 stored_rules stored_shown in
    let e = c.in-Err.fault in
    let f = c.in-Err.ensures.fault in
    let error = c.error_of_fault.result in
    let is = c.error_of_fault.ensures in
    record {
      part = reads_failed {s0 = s0} {s1 = s1} {damage = ShowsDamage g.K.Keeper.kept s0} shown e f c.requires c.in-Err.ensures.closed c.in-Err.ensures.undamaged (apply_events c.args.number c.args.id.now) (λ refused. refused) error is;
      no_rest = λ unread. absurd (unread (stops_reads g.K.Keeper.kept s0 s1 (ShowsDamage g.K.Keeper.kept s0) shown e f error is));
    }

-- a set has the name
pub apply_found-requires : goal.apply_found-requires
apply_found-requires g c =
    let kept = g.K.Keeper.kept in
    let s0 = c.args.sites.now in
    let s1 = c.find_set.new.sites in
    let looks = c.in-Ok.ensures.ok in
    let known = known_some kept s0 c.args.id.now c.in-Ok.ensures.known c.in-Some.set c.in-Some.is in
    record {
      placed = placed_some kept s1 c.in-Ok.ensures.placed c.in-Some.set c.in-Some.is;
      known = λ w stands. known w (stood_before kept s0 s1 looks w stands);
      closed = closed_after kept s0 s1 looks c.requires;
    }

pub returns-in-Some : goal.returns-in-Some
returns-in-Some g c =
    let kept = g.K.Keeper.kept in
    let s1 = c.find_set.new.sites in
    let looks = c.in-Ok.ensures.ok in
    let set = c.in-Some.set in
    let placed = placed_some kept s1 c.in-Ok.ensures.placed set c.in-Some.is in
    record {
      part = part_looked looks c.requires c.apply_found.ensures.part;
      no_rest = if_err_also c.apply_found.result (λ e tells. λ unread. (set, placed_before kept c.args.sites.now s1 looks set placed, tells)) c.apply_found.ensures.no_rest;
    }

-- no set has it
pub returns-in-None : goal.returns-in-None
returns-in-None g c =
    let kept = g.K.Keeper.kept in
    let s0 = c.args.sites.now in
    let s1 = c.find_set.new.sites in
    let looks = c.in-Ok.ensures.ok in
    let number = c.args.number in
    let id = c.args.id.now in
    let wrote = c.refuse_set.ensures in
    let known = known_none kept s0 id c.in-Ok.ensures.known c.in-None.is in
    record {
      part = part_looked looks c.requires (part_as (apply_events number id) (λ w stands. unknown_applied number id w (known w (stood_before kept s0 s1 looks w stands))) (part_refused (λ refused. refused) (closed_after kept s0 s1 looks c.requires) refl wrote));
      no_rest = if_err_also c.refuse_set.result (λ e out. λ unread. absurd (unread (output_reads (g.O.Sink.faults c.args.output.now) (g.O.Sink.faults c.refuse_set.new.output) e out))) wrote.line.cause;
    }
