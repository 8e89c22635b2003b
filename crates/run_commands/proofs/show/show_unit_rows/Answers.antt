use Rattle.std.proofs.Common.{refl, rules, map}
use Rattle.run_core.specs.Runs.{writes}
use Rattle.shows.specs.tables.Replies.{unit_lines}
use Rattle.shows.specs.tables.Rules.{unit_reads}
use Rattle.run_commands.specs.show.ShowEvents.{units_events}
use Rattle.run_commands.specs.parts.laws.Composing.{part_as, part_refused}
use Rattle.run_commands.proofs.ShowEvents.{at_none, all_written, all_begun, fails_holds, show_cause}
use Rattle.run_commands.proofs.show.show_unit_rows.Goals as goal

pub returns-in_default : goal.returns-in_default
returns-in_default g c =
    let name = c.args.name in
    part_as (units_events name) (at_none g.K.Keeper.kept c.args.sites.now c.requires name (λ server. map writes (unit_lines server)) c.in_default.ensures) (part_refused (λ refused. refused) c.requires refl c.refuse.ensures)

pub returns-in-Ok : goal.returns-in-Ok
returns-in-Ok g c = record {
  ok = all_written g.K.Keeper.kept c.args.sites.now c.requires c.args.name c.in-Some.server c.in-Some.ensures c.show_units.new.sites c.in-Ok.ensures.stays.held (g.O.Sink.taken c.args.output.now) (g.O.Sink.taken c.show_units.new.output) unit_lines c.in-Ok.ensures.ok;
  stopped = tt;
  servers = search rules;
  cause = tt;
  counts = search rules;
}

pub returns : goal.returns
returns g c =
    let kept = g.K.Keeper.kept in
    let s0 = c.args.sites.now in
    let s1 = c.show_units.new.sites in
    let name = c.args.name in
    let n = c.in-Some.server in
    let before = g.O.Sink.faults c.args.output.now in
    let now = g.O.Sink.faults c.show_units.new.output in
    let error = c.in-Err.error in
    let fails = c.in-Err.ensures.fault in
    record {
      ok = tt;
      stopped = all_begun kept s0 c.requires name n c.in-Some.ensures s1 (fails_holds kept s0 c.requires name s1 (unit_reads n) before now error fails) (g.O.Sink.taken c.args.output.now) (g.O.Sink.taken c.show_units.new.output) unit_lines c.in-Err.ensures.err;
      servers = search rules;
      cause = show_cause kept s0 c.requires name s1 (unit_reads n) before now error c.error_of_reply.result c.error_of_reply.ensures fails c.in-Err.ensures.undamaged;
      counts = search rules;
    }
