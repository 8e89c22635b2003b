use Rattle.std.proofs.Common.{◌≡◌, ◌∙◌, List, false, refl, subst, sym}
use Rattle.world_store.specs.Words.{Stands}
use Rattle.site_store.specs.Words.{names, held}
use Rattle.repl_model.specs.Words.{World}
use Rattle.member_targets.specs.Showing.{ShowsDamage}
use Rattle.run_core.specs.Runs.{Event, Went, Stopped, is_refused}
use Rattle.run_commands.specs.parts.laws.Composing.{part_as, part_refused}
use Rattle.run_commands.specs.parts.laws.Damage.{targets_shown}
use Rattle.run_commands.specs.parts.laws.Looking.{looked_keeps}
use Rattle.run_commands.proofs.AfterReads.{read_only, fails_test, target_written, target_begun}
use Rattle.run_commands.proofs.TargetEvents.{other_refused, fails_run, fails_held, fails_keeps, show_cause}
use Rattle.run_commands.proofs.target.show_found_target.Goals as goal

-- its kind isn't carried out
pub is_taken_at-requires : goal.is_taken_at-requires
is_taken_at-requires g c = c.requires.there.member

pub returns-then-not-is_taken_at : goal.returns-then-not-is_taken_at
returns-then-not-is_taken_at g c =
    let other = fails_test c.is_taken_at.result c.is_taken_at.ensures c.if-not-is_taken_at.true in
    λ events known. part_as events (λ w stands. let one = known w stands in let at = one.2 in other_refused c.args.number w one.0 at.0 c.args.target.now one.1 at.1 other ∙ sym at.2) (part_refused (λ refused. refused) c.requires.closed refl c.refuse.ensures)

-- its rows were written
pub show_target-requires : goal.show_target-requires
show_target-requires g c = record {
  placed = c.requires.there.placed;
  closed = c.requires.closed;
  taken = c.is_taken_at.ensures.0 c.if-not-is_taken_at.false;
}

pub returns-in-Ok : goal.returns-in-Ok
returns-in-Ok g c =
    let kept = g.K.Keeper.kept in
    let s0 = c.args.sites.now in
    let s1 = c.show_target.new.sites in
    let shown = c.in-Ok.ensures.stays in
    let t = g.O.Sink.taken c.args.output.now in
    let u = g.O.Sink.taken c.show_target.new.output in
    let taken = c.is_taken_at.ensures.0 c.if-not-is_taken_at.false in
    let written = target_written kept s0 s1 shown.stays.held t u c.args.number c.args.target.now c.requires.there.read_only taken c.in-Ok.ensures.ok in
    λ events known. record {
      ok = λ w stands.
          let one = known w stands in
          let at = one.2 in
          subst (λ (es : List (Event World)). Went (Stands (names s0)) es w (held kept s1) t u × (false ≡ is_refused es)) (sym at.2) (written w one.0 at.0 stands one.1 at.1);
      stopped = tt;
      servers = looked_keeps kept s0 s1 shown c.requires.closed;
      cause = tt;
      counts = c.show_target.ensures.counts;
    }

-- they weren't written whole
pub error_of_reply-requires : goal.error_of_reply-requires
error_of_reply-requires g c = fails_run g.K.Keeper.kept c.args.sites.now c.show_target.new.sites (ShowsDamage g.K.Keeper.kept c.args.sites.now) (targets_shown g.K.Keeper.kept c.args.sites.now) c.requires.closed (g.O.Sink.faults c.args.output.now) (g.O.Sink.faults c.show_target.new.output) c.in-Err.error c.in-Err.ensures.fault

pub returns-in-Err : goal.returns-in-Err
returns-in-Err g c =
    let kept = g.K.Keeper.kept in
    let s0 = c.args.sites.now in
    let s1 = c.show_target.new.sites in
    let closed = c.requires.closed in
    let error = c.in-Err.error in
    let damage = ShowsDamage kept s0 in
    let of_run = targets_shown kept s0 in
    let fails = c.in-Err.ensures.fault in
    let target = c.args.target.now in
    let is = c.requires.there.read_only in
    let t = g.O.Sink.taken c.args.output.now in
    let u = g.O.Sink.taken c.show_target.new.output in
    let before = g.O.Sink.faults c.args.output.now in
    let now = g.O.Sink.faults c.show_target.new.output in
    let taken = c.is_taken_at.ensures.0 c.if-not-is_taken_at.false in
    let begun = target_begun kept s0 s1 (fails_held kept s0 s1 damage of_run closed before now error fails) t u c.args.number target is taken c.in-Err.ensures.err in
    λ events known. record {
      ok = tt;
      stopped = λ w stands.
          let one = known w stands in
          let at = one.2 in
          subst (λ (es : List (Event World)). Stopped (Stands (names s0)) es w (held kept s1) t u) (sym at.2) (begun w one.0 at.0 stands one.1 at.1);
      servers = fails_keeps kept s0 s1 damage of_run closed before now error fails;
      cause = show_cause kept s0 s1 damage of_run closed before now error c.error_of_reply.result c.error_of_reply.ensures fails (λ w stands. let one = known w stands in c.in-Err.ensures.undamaged w one.0 stands one.1 (read_only w one.0 target.set one.1 is));
      counts = c.show_target.ensures.counts;
    }
