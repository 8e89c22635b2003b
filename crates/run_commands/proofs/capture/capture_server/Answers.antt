use Rattle.std.proofs.Common.{ℕ, ◌<◌, false, refl, sym, subst, arith}
use Rattle.world_store.specs.Words.{Stands}
use Rattle.site_store.specs.Words.{names, held}
use Rattle.repl_model.specs.Words.{World}
use Rattle.capture_core.specs.Capturing.{HasCapturedAll, HasStopped}
use Rattle.run_commands.specs.parts.laws.Composing.{part_as, part_refused, part_written}
use Rattle.run_commands.specs.capture.CaptureEvents.{capture_events}
use Rattle.run_commands.proofs.CaptureEvents.{some_units, none_there, capture_written, capture_begun, ends_run, capture_stopped, capture_cause}
use Rattle.run_commands.proofs.capture.capture_server.Goals as goal

pub capture-requires : goal.capture-requires
capture-requires g c = record {
  server = c.in-Some.ensures.within;
  closed = c.requires;
  every = subst (λ (n : ℕ). 0 < n) (sym c.units_per_commit.ensures) (some_units c.args.every);
}

pub error_of_fault-requires : goal.error_of_fault-requires
error_of_fault-requires g c =
    ends_run g.K.Keeper.kept c.args.sites.now c.requires c.args.name c.args.units c.args.every c.in-Some.server c.in-Some.ensures c.capture.new.sites c.capture.ensures.servers (g.O.Sink.taken c.args.output.now) c.in-Err.fault c.in-Err.ensures.blames

pub returns-in_default : goal.returns-in_default
returns-in_default g c =
    let name = c.args.name in
    part_as (capture_events name c.args.units c.args.every) (none_there g.K.Keeper.kept c.args.sites.now c.requires name c.args.units c.args.every c.in_default.ensures) (part_refused (λ refused. refused) c.requires refl c.refuse.ensures)

pub returns-in-Ok : goal.returns-in-Ok
returns-in-Ok g c =
    let kept = g.K.Keeper.kept in
    let s0 = c.args.sites.now in
    let s1 = c.capture.new.sites in
    let name = c.args.name in
    let units = c.args.units in
    let every = c.args.every in
    let n = c.in-Some.server in
    let answer = c.in-Ok.captured in
    let keeps = c.capture.ensures.servers in
    let t = g.O.Sink.taken c.args.output.now in
    let u = g.O.Sink.taken c.write_counts.new.output in
    let has = subst (λ (most : ℕ). (w : World) → Stands (names s0) (held kept s0) w → HasCapturedAll kept s0 s1 n units most w answer) c.units_per_commit.ensures c.in-Ok.ensures.ok in
    part_written c.write_counts.ensures (capture_events name units every) (λ refused. refused) keeps
    (λ took. capture_written kept s0 c.requires name units every n c.in-Some.ensures s1 keeps t answer has u false (refl, took))
    (capture_begun kept s0 c.requires name units every n c.in-Some.ensures s1 keeps t answer has u)

pub returns : goal.returns
returns g c =
    let kept = g.K.Keeper.kept in
    let s0 = c.args.sites.now in
    let s1 = c.capture.new.sites in
    let name = c.args.name in
    let units = c.args.units in
    let every = c.args.every in
    let n = c.in-Some.server in
    let e = c.in-Err.fault in
    let t = g.O.Sink.taken c.args.output.now in
    let count = g.O.Sink.faults c.args.output.now in
    let keeps = c.capture.ensures.servers in
    let has = subst (λ (most : ℕ). (w : World) → Stands (names s0) (held kept s0) w → HasStopped kept s0 s1 n units most w e) c.units_per_commit.ensures c.in-Err.ensures.fault in
    record {
      ok = tt;
      stopped = capture_stopped kept s0 c.requires name units every n c.in-Some.ensures s1 keeps t e c.in-Err.ensures.blames has;
      servers = keeps;
      cause = capture_cause kept s0 c.requires name units every n c.in-Some.ensures s1 keeps t e c.in-Err.ensures.blames has count count c.error_of_fault.result c.error_of_fault.ensures;
      counts = omega arith;
    }
