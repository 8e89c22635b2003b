use Rattle.std.proofs.Common.{ℕ, refl, subst, sym, Option, IfSome}
use Rattle.world_store.specs.Words.{Stands}
use Rattle.site_store.specs.Words.{names, held}
use Rattle.repl_model.specs.Words.{World, server_in}
use Rattle.shows.specs.sets.Rules.{rules, ShowsDamage}
use Rattle.shows.specs.sets.Targets.{IsTargetAt, IsNamedAs}
use Rattle.shows.specs.declared.targets.PlacedTarget.{PlacedTarget}
use Rattle.run_commands.specs.parts.laws.Composing.{part_as, part_looked, part_refused, reads_failed}
use Rattle.run_commands.specs.parts.laws.Damage.{all_shown, sets_shown}
use Rattle.run_commands.specs.parts.laws.Looking.{closed_after, stops_run, stood_before}
use Rattle.run_commands.specs.target.TargetEvents.{target_events}
use Rattle.run_commands.proofs.TargetEvents.{no_such_target, one_target}
use Rattle.run_commands.proofs.target.show_rows_at.Goals as goal

-- the target wasn't looked for to the end
pub find_target-requires : goal.find_target-requires
find_target-requires g c = record { server = c.requires.server.within; closed = c.requires.closed }

pub error_of_fault-requires : goal.error_of_fault-requires
error_of_fault-requires g c =
    let s0 = c.args.sites.now in
    stops_run g.K.Keeper.kept s0 c.find_target.new.sites (ShowsDamage g.K.Keeper.kept s0) (all_shown g.K.Keeper.kept s0 rules sets_shown) c.in-Err.fault c.in-Err.ensures.fault

pub returns-in-Err : goal.returns-in-Err
returns-in-Err g c = reads_failed {s0 = c.args.sites.now} {s1 = c.find_target.new.sites} {damage = ShowsDamage g.K.Keeper.kept c.args.sites.now} (all_shown g.K.Keeper.kept c.args.sites.now rules sets_shown) c.in-Err.fault c.in-Err.ensures.fault c.requires.closed c.in-Err.ensures.closed c.in-Err.ensures.undamaged (target_events c.args.number c.args.name c.args.table) (λ refused. refused) c.error_of_fault.result c.error_of_fault.ensures

-- the server has such a target
pub show_found_target-requires : goal.show_found_target-requires
show_found_target-requires g c =
    let kept = g.K.Keeper.kept in
    let s0 = c.args.sites.now in
    let s1 = c.find_target.new.sites in
    let there = subst (λ (found : Option PlacedTarget). IfSome found (IsTargetAt kept s1 c.args.server)) c.in-Some.is c.in-Ok.ensures.placed in
    record {
      there = subst (λ (server : ℕ). IsTargetAt kept s1 server c.in-Some.target) (sym there.here) there;
      closed = closed_after kept s0 s1 c.in-Ok.ensures.ok c.requires.closed;
    }

pub returns-in-Some : goal.returns-in-Some
returns-in-Some g c =
    let kept = g.K.Keeper.kept in
    let s0 = c.args.sites.now in
    let s1 = c.find_target.new.sites in
    let looks = c.in-Ok.ensures.ok in
    let closed = c.requires.closed in
    let number = c.args.number in
    let name = c.args.name in
    let table = c.args.table in
    let n = c.args.server in
    let target = c.in-Some.target in
    let named = subst (λ (found : Option PlacedTarget). (w : World) → Stands (names s0) (held kept s0) w → IsNamedAs table w (server_in w n) found) c.in-Some.is c.in-Ok.ensures.found in
    part_looked looks closed (c.show_found_target.ensures (target_events number name table) (λ w stands.
    let before = stood_before kept s0 s1 looks w stands in
    let one = named w before in
    (one.k, one.placed, (one.member, one.there, sym (one_target kept s0 closed number name table n c.requires.server w before target one)))))

-- it has none
pub returns-in-None : goal.returns-in-None
returns-in-None g c =
    let kept = g.K.Keeper.kept in
    let s0 = c.args.sites.now in
    let s1 = c.find_target.new.sites in
    let looks = c.in-Ok.ensures.ok in
    let closed = c.requires.closed in
    let number = c.args.number in
    let name = c.args.name in
    let table = c.args.table in
    let n = c.args.server in
    let named = subst (λ (found : Option PlacedTarget). (w : World) → Stands (names s0) (held kept s0) w → IsNamedAs table w (server_in w n) found) c.in-None.is c.in-Ok.ensures.found in
    part_looked looks closed (part_as (target_events number name table) (λ w stands. let before = stood_before kept s0 s1 looks w stands in no_such_target kept s0 closed number name table n c.requires.server w before (named w before))
    (part_refused (λ refused. refused) (closed_after kept s0 s1 looks closed) refl c.refuse.ensures))
