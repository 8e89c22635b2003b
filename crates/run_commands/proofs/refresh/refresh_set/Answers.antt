use Rattle.std.proofs.Common.{refl, sym}
use Rattle.stored_defs.specs.Rules.{rules as stored_rules, ShowsDamage}
use Rattle.run_commands.specs.parts.laws.Composing.{part_as, part_looked, part_refused, reads_failed}
use Rattle.run_commands.specs.parts.laws.Damage.{all_shown, stored_shown}
use Rattle.run_commands.specs.parts.laws.Looking.{closed_after, stops_run, stood_before}
use Rattle.run_commands.specs.refresh.RefreshEvents.{refresh_events}
use Rattle.run_commands.proofs.MadeSteps.{known_none, known_some, placed_some}
use Rattle.run_commands.proofs.RefreshEvents.{none_known, one_known}
use Rattle.run_commands.proofs.refresh.refresh_set.Goals as goal

-- the set wasn't looked for to the end
pub find_set-requires : goal.find_set-requires
find_set-requires g c = record { closed = c.requires }

pub error_of_fault-requires : goal.error_of_fault-requires
error_of_fault-requires g c = stops_run g.K.Keeper.kept c.args.sites.now c.find_set.new.sites (ShowsDamage g.K.Keeper.kept c.args.sites.now) (all_shown g.K.Keeper.kept c.args.sites.now stored_rules stored_shown) c.in-Err.fault c.in-Err.ensures.fault

pub returns-in-Err : goal.returns-in-Err
returns-in-Err g c = reads_failed {s0 = c.args.sites.now} {s1 = c.find_set.new.sites} {damage = ShowsDamage g.K.Keeper.kept c.args.sites.now} (all_shown g.K.Keeper.kept c.args.sites.now stored_rules stored_shown) c.in-Err.fault c.in-Err.ensures.fault c.requires c.in-Err.ensures.closed c.in-Err.ensures.undamaged (refresh_events c.args.id.now) (λ refused. refused) c.error_of_fault.result c.error_of_fault.ensures

-- a set has the name
pub flag_found-requires : goal.flag_found-requires
flag_found-requires g c =
    let kept = g.K.Keeper.kept in
    let s1 = c.find_set.new.sites in
    record {
      placed = placed_some kept s1 c.in-Ok.ensures.placed c.in-Some.set c.in-Some.is;
      closed = closed_after kept c.args.sites.now s1 c.in-Ok.ensures.ok c.requires;
    }

pub returns-in-Some : goal.returns-in-Some
returns-in-Some g c =
    let kept = g.K.Keeper.kept in
    let s0 = c.args.sites.now in
    let looks = c.in-Ok.ensures.ok in
    let id = c.args.id.now in
    let set = c.in-Some.set in
    let known = known_some kept s0 id c.in-Ok.ensures.known set c.in-Some.is in
    part_looked looks c.requires (c.flag_found.ensures (refresh_events id) (λ w stands. let one = known w (stood_before kept s0 c.find_set.new.sites looks w stands) in (one.0, one.2, sym (one_known id w set one))))

-- no set has it
pub returns-in-None : goal.returns-in-None
returns-in-None g c =
    let kept = g.K.Keeper.kept in
    let s0 = c.args.sites.now in
    let s1 = c.find_set.new.sites in
    let looks = c.in-Ok.ensures.ok in
    let id = c.args.id.now in
    let known = known_none kept s0 id c.in-Ok.ensures.known c.in-None.is in
    part_looked looks c.requires (part_as (refresh_events id) (λ w stands. none_known id w (known w (stood_before kept s0 s1 looks w stands))) (part_refused (λ refused. refused) (closed_after kept s0 s1 looks c.requires) refl c.refuse_set.ensures))
