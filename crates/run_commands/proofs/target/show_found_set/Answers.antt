use Rattle.std.proofs.Common.{◌≡◌, ◌∙◌, List, false, not, ap, refl, subst, sym}
use Rattle.world_store.specs.Words.{Stands}
use Rattle.site_store.specs.Words.{names, held}
use Rattle.repl_model.specs.Words.{World}
use Rattle.run_core.specs.Runs.{Event, Went, Stopped, is_refused}
use Rattle.run_commands.specs.parts.laws.Composing.{part_as, part_refused}
use Rattle.run_commands.specs.parts.laws.Looking.{looked_keeps}
use Rattle.run_commands.proofs.AfterReads.{read_only, set_written, set_begun}
use Rattle.shows.specs.sets.Rules.{rules, ShowsDamage}
use Rattle.run_commands.specs.parts.laws.Damage.{all_shown, sets_shown}
use Rattle.run_commands.proofs.TargetEvents.{replica_refused, fails_run, fails_held, fails_keeps, show_cause}
use Rattle.run_commands.proofs.target.show_found_set.Goals as goal

-- it is a replica set
pub returns-then-is_replica_set : goal.returns-then-is_replica_set
returns-then-is_replica_set g c =
    let set = c.args.set.now in
    let is = sym c.is_replica_set.ensures ∙ c.if-is_replica_set.true in
    λ events known. part_as events (λ w stands. let one = known w stands in replica_refused c.args.number w one.0 set one.1 is ∙ sym one.2) (part_refused (λ refused. refused) c.requires.closed refl c.refuse.ensures)

-- its line was written
pub show_set-requires : goal.show_set-requires
show_set-requires g c = record {
  placed = c.requires.placed;
  read_only = ap not (sym c.is_replica_set.ensures ∙ c.if-is_replica_set.false);
  closed = c.requires.closed;
}

pub returns-in-Ok : goal.returns-in-Ok
returns-in-Ok g c =
    let kept = g.K.Keeper.kept in
    let s0 = c.args.sites.now in
    let s1 = c.show_set.new.sites in
    let shown = c.in-Ok.ensures.stays in
    let t = g.O.Sink.taken c.args.output.now in
    let u = g.O.Sink.taken c.show_set.new.output in
    let is = sym c.is_replica_set.ensures ∙ c.if-is_replica_set.false in
    λ events known. record {
      ok = λ w stands.
          let one = known w stands in
          subst (λ (es : List (Event World)). Went (Stands (names s0)) es w (held kept s1) t u × (false ≡ is_refused es)) (sym one.2) (set_written kept s0 s1 shown.stays.held t u c.args.number c.args.set.now is c.in-Ok.ensures.ok w one.0 stands one.1);
      stopped = tt;
      servers = looked_keeps kept s0 s1 shown c.requires.closed;
      cause = tt;
      counts = c.show_set.ensures.counts;
    }

-- it wasn't written whole
pub error_of_reply-requires : goal.error_of_reply-requires
error_of_reply-requires g c = fails_run g.K.Keeper.kept c.args.sites.now c.show_set.new.sites (ShowsDamage g.K.Keeper.kept c.args.sites.now) (all_shown g.K.Keeper.kept c.args.sites.now rules sets_shown) c.requires.closed (g.O.Sink.faults c.args.output.now) (g.O.Sink.faults c.show_set.new.output) c.in-Err.error c.in-Err.ensures.fault

pub returns-in-Err : goal.returns-in-Err
returns-in-Err g c =
    let kept = g.K.Keeper.kept in
    let s0 = c.args.sites.now in
    let s1 = c.show_set.new.sites in
    let closed = c.requires.closed in
    let error = c.in-Err.error in
    let fails = c.in-Err.ensures.fault in
    let t = g.O.Sink.taken c.args.output.now in
    let u = g.O.Sink.taken c.show_set.new.output in
    let before = g.O.Sink.faults c.args.output.now in
    let now = g.O.Sink.faults c.show_set.new.output in
    let set = c.args.set.now in
    let is = sym c.is_replica_set.ensures ∙ c.if-is_replica_set.false in
    let damage = ShowsDamage kept s0 in
    let of_run = all_shown kept s0 rules sets_shown in
    let begun = set_begun kept s0 s1 (fails_held kept s0 s1 damage of_run closed before now error fails) t u c.args.number set is c.in-Err.ensures.err in
    λ events known. record {
      ok = tt;
      stopped = λ w stands.
          let one = known w stands in
          subst (λ (es : List (Event World)). Stopped (Stands (names s0)) es w (held kept s1) t u) (sym one.2) (begun w one.0 stands one.1);
      servers = fails_keeps kept s0 s1 damage of_run closed before now error fails;
      cause = show_cause kept s0 s1 damage of_run closed before now error c.error_of_reply.result c.error_of_reply.ensures fails (λ w stands. let one = known w stands in c.in-Err.ensures.undamaged w one.0 stands one.1 (read_only w one.0 set one.1 (ap not is)));
      counts = c.show_set.ensures.counts;
    }
