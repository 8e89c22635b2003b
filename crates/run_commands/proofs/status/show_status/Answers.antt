use Rattle.std.proofs.Common.{refl, rules}
use Rattle.shows.specs.servers.Rules.{reads_at, status_reads}
use Rattle.run_commands.specs.parts.laws.Composing.{part_as, part_refused}
use Rattle.run_commands.specs.status.StatusEvents.{status_events}
use Rattle.run_commands.proofs.StatusEvents.{at_none, status_written, status_begun, fails_holds, status_cause}
use Rattle.run_commands.proofs.status.show_status.Goals as goal

pub returns-in_default : goal.returns-in_default
returns-in_default g c =
    let name = c.args.name in
    part_as (status_events name) (at_none g.K.Keeper.kept c.args.sites.now c.requires name c.in_default.ensures) (part_refused (λ refused. refused) c.requires refl c.refuse.ensures)

pub returns-in-Ok : goal.returns-in-Ok
returns-in-Ok g c = record {
  ok = status_written g.K.Keeper.kept c.args.sites.now c.requires c.show_server.new.sites (reads_at status_reads c.in-Some.server) (g.O.Sink.taken c.args.output.now) (g.O.Sink.taken c.show_server.new.output) c.args.name c.in-Some.server c.in-Some.ensures c.in-Ok.ensures.stays c.in-Ok.ensures.ok;
  stopped = tt;
  servers = search rules;
  cause = tt;
  counts = search rules;
}

pub returns : goal.returns
returns g c =
    let kept = g.K.Keeper.kept in
    let s0 = c.args.sites.now in
    let s1 = c.show_server.new.sites in
    let reads = reads_at status_reads c.in-Some.server in
    let before = g.O.Sink.faults c.args.output.now in
    let now = g.O.Sink.faults c.show_server.new.output in
    let error = c.in-Err.error in
    let fails = c.in-Err.ensures.fault in
    record {
      ok = tt;
      stopped = status_begun kept s0 c.requires s1 (g.O.Sink.taken c.args.output.now) (g.O.Sink.taken c.show_server.new.output) c.args.name c.in-Some.server c.in-Some.ensures (fails_holds kept s0 c.requires s1 reads before now error fails) c.in-Err.ensures.err;
      servers = search rules;
      cause = status_cause kept s0 c.requires s1 reads before now error c.error_of_reply.result c.error_of_reply.ensures fails c.in-Err.ensures.undamaged;
      counts = search rules;
    }
