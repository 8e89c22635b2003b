use Rattle.std.proofs.Common.{◌∙◌, ◌≤◌, ◌+◌, ◌||◌, Bool, Err, refl, sym, subst, arith, true≢false}
use Rattle.world_store.specs.Words.{Stands}
use Rattle.site_store.specs.Words.{names, held, keeps_then}
use Rattle.line_input.specs.Input.{left_of, total_of, ReadsLine}
use Rattle.line_input.specs.Limits.{input_limit}
use Rattle.line_input.specs.declared.input.Next.{Next}
use Rattle.run_commands.specs.parts.laws.Parts.{later_cause}
use Rattle.session_core.specs.copy.unwritten.laws.Causes.{part_blamed}
use Rattle.session_core.specs.Reading.{ReadsAll}
use Rattle.session_core.specs.copy.fed.FedInput.{input_events}
use Rattle.session_core.proofs.CopyEnds.{input_blamed, input_unblamed}
use Rattle.session_core.proofs.CopyLines.{is_ended, is_more, is_feed, fed_later, fed_none, still_stands, stopped_here, line_fed, line_stopped, end_fed, end_stopped, none_is}
use Rattle.session_core.proofs.CopyFirstLines.{all_read}
use Rattle.session_core.proofs.CopyGoing.{begins, stops_first}
use Rattle.session_core.proofs.CopyReading.{nothing_read_part, reading_err}
use Rattle.session_core.proofs.copy.fed.feeding.feed_input.Goals as goal

pub returns-in_err-lines : goal.returns-in_err-lines
returns-in_err-lines g c = reading_err c.from_residual.result c.from_residual.ensures.1 (nothing_read_part (input_events c.args.server) c.requires)

pub same-server : goal.same-server
same-server g c = refl

pub begin_feed-requires : goal.begin_feed-requires
begin_feed-requires g c = c.requires

pub returns-in_err-feed : goal.returns-in_err-feed
returns-in_err-feed g c =
    let kept = g.K.Keeper.kept in
    let s0 = c.args.sites.now in
    let s1 = c.begin_feed.new.sites in
    let left = g.I.Source.left c.args.input.now in
    let read = g.I.Source.faults c.args.input.now in
    let part = c.in_err-feed.ensures.part in
    reading_err c.from_residual-in_err-feed.result c.from_residual-in_err-feed.ensures.1 (record {
      ok = tt;
      stopped = λ w at. stops_first (Stands (names s0)) c.args.server w (held kept s1) (g.O.Sink.taken c.args.output.now) (g.O.Sink.taken c.begin_feed.new.output) left (part.stopped w at);
      ended = part_blamed kept s0 s1 left read read (g.O.Sink.faults c.args.output.now) (g.O.Sink.faults c.begin_feed.new.output) c.in_err-feed.field-0.0 part.cause;
      servers = part.servers;
      cause = part.cause.servers;
      counts = part.counts;
    })

pub loop-feed-init : goal.loop-feed-init
loop-feed-init g c =
    let kept = g.K.Keeper.kept in
    let s0 = c.args.sites.now in
    let s1 = c.begin_feed.new.sites in
    let left = g.I.Source.left c.args.input.now in
    record {
      going = λ w at.
          begins (Stands (names s0)) c.args.server w (held kept s1) (g.O.Sink.taken c.args.output.now) (g.O.Sink.taken c.begin_feed.new.output) left (left_of c.in_ok-lines.lines left) c.in_ok-feed.feed
          (c.in_ok-lines.ensures.left left) (c.in_ok-feed.ensures.after w at) (c.in_ok-feed.ensures.part.ok w at);
      servers = c.begin_feed.ensures.part.servers;
      feeds = fed_none c.in_ok-feed.feed c.in_ok-feed.ensures.feed;
      total = c.in_ok-lines.ensures.total left;
      few = omega (arith, c.in_ok-lines.ensures.budget);
      one_source = λ ended. absurd (true≢false (sym ended ∙ c.in_ok-lines.ensures.begins));
      input_counts = omega arith;
      output_counts = c.begin_feed.ensures.part.counts;
    }

pub next_line-requires : goal.next_line-requires
next_line-requires g c = record { same_source = c.loop-feed.invariant.one_source }

pub returns-in_err-next : goal.returns-in_err-next
returns-in_err-next g c =
    let kept = g.K.Keeper.kept in
    let s0 = c.args.sites.now in
    let s1 = c.loop-feed.sites in
    let inv = c.loop-feed.invariant in
    let left = g.I.Source.left c.args.input.now in
    let later = g.I.Source.left c.loop-feed.input in
    let t = g.O.Sink.taken c.args.output.now in
    let u = g.O.Sink.taken c.loop-feed.output in
    let e = c.in_err-next.field-0.0 in
    reading_err c.from_residual-in_err-next.result c.from_residual-in_err-next.ensures.1 (record {
      ok = tt;
      stopped = stopped_here kept s0 s1 s1 inv.servers.names c.args.server left t u u c.loop-feed.feed c.loop-feed.number (left_of c.loop-feed.lines later) inv.going;
      ended = input_blamed left (total_of c.loop-feed.lines later) (g.I.Source.faults c.args.input.now) (g.I.Source.faults c.loop-feed.input) (g.I.Source.faults c.next_line.new.source) (g.O.Sink.faults c.args.output.now) (g.O.Sink.faults c.loop-feed.output)
          (Err e) e refl inv.total inv.input_counts c.in_err-next.ensures.cause;
      servers = inv.servers;
      cause = input_unblamed kept s0 s1 e;
      counts = inv.output_counts;
    })

pub feed_next-requires : goal.feed_next-requires
feed_next-requires g c =
    let inv = c.loop-feed.invariant in
    let more = is_more c.in_ok-next.next (sym c.is_end.ensures ∙ c.if-is_end.false) in
    record {
      closed = inv.servers.closed;
      feed = inv.feeds;
      few = omega (arith, inv.few, c.in_ok-next.ensures.spends.budget more);
    }

pub returns-in_err-feed-2 : goal.returns-in_err-feed-2
returns-in_err-feed-2 g c =
    let kept = g.K.Keeper.kept in
    let s0 = c.args.sites.now in
    let s1 = c.loop-feed.sites in
    let s2 = c.feed_next.new.sites in
    let inv = c.loop-feed.invariant in
    let left = g.I.Source.left c.args.input.now in
    let before = left_of c.loop-feed.lines (g.I.Source.left c.loop-feed.input) in
    let now = left_of c.next_line.new.self (g.I.Source.left c.next_line.new.source) in
    let t = g.O.Sink.taken c.args.output.now in
    let u = g.O.Sink.taken c.loop-feed.output in
    let u2 = g.O.Sink.taken c.feed_next.new.output in
    let count = g.O.Sink.faults c.args.output.now in
    let later = g.O.Sink.faults c.feed_next.new.output in
    let e = c.in_err-feed-2.field-0.0 in
    let more = is_more c.in_ok-next.next (sym c.is_end.ensures ∙ c.if-is_end.false) in
    let part = rw c.deref.ensures.value at c.in_err-feed-2.ensures.part in
    let cause = later_cause kept s0 s1 s2 count (g.O.Sink.faults c.loop-feed.output) later e inv.servers
    (still_stands kept s0 s1 s1 inv.servers.names c.args.server left t u u c.loop-feed.feed c.loop-feed.number before inv.going) inv.output_counts part.cause in
    reading_err c.from_residual-in_err-feed-2.result c.from_residual-in_err-feed-2.ensures.1 (record {
      ok = tt;
      stopped = line_stopped kept s0 s1 s2 inv.servers.names c.args.server left t u u2 c.loop-feed.feed c.loop-feed.number before now inv.going c.in_ok-next.next c.next_line.new.line.items c.in_ok-next.ensures.line more c.in_ok-next.ensures.whole part.stopped;
      ended = part_blamed kept s0 s2 left (g.I.Source.faults c.args.input.now) (g.I.Source.faults c.next_line.new.source) count later e cause;
      servers = keeps_then kept s0 s1 s2 inv.servers part.servers;
      cause = cause.servers;
      counts = omega (arith, inv.output_counts, part.counts);
    })

pub overflow_add-number : goal.overflow_add-number
overflow_add-number g c =
    let inv = c.loop-feed.invariant in
    let few : c.loop-feed.number ≤ input_limit + 1 = omega (arith, inv.few) in
    omega (arith, few)

pub loop-feed-smaller : goal.loop-feed-smaller
loop-feed-smaller g c = c.in_ok-next.ensures.spends.budget (is_more c.in_ok-next.next (sym c.is_end.ensures ∙ c.if-is_end.false))

pub loop-feed-preserved : goal.loop-feed-preserved
loop-feed-preserved g c =
    let kept = g.K.Keeper.kept in
    let s0 = c.args.sites.now in
    let s1 = c.loop-feed.sites in
    let s2 = c.feed_next.new.sites in
    let inv = c.loop-feed.invariant in
    let left = g.I.Source.left c.args.input.now in
    let before = left_of c.loop-feed.lines (g.I.Source.left c.loop-feed.input) in
    let now = left_of c.next_line.new.self (g.I.Source.left c.next_line.new.source) in
    let t = g.O.Sink.taken c.args.output.now in
    let u = g.O.Sink.taken c.loop-feed.output in
    let u2 = g.O.Sink.taken c.feed_next.new.output in
    let feed = c.loop-feed.feed in
    let number = c.loop-feed.number in
    let next = c.in_ok-next.next in
    let after = c.in_ok-feed-2.feed in
    let more = is_more next (sym c.is_end.ensures ∙ c.if-is_end.false) in
    let part = rw c.deref.ensures.value at c.in_ok-feed-2.ensures.part in
    let feeds = rw c.deref.ensures.value at c.in_ok-feed-2.ensures.after in
    record {
      going = line_fed kept s0 s1 s2 inv.servers.names c.args.server left t u u2 feed number before now inv.going next c.next_line.new.line.items c.in_ok-next.ensures.line more c.in_ok-next.ensures.whole after part.ok feeds;
      servers = keeps_then kept s0 s1 s2 inv.servers part.servers;
      feeds = fed_later number after feeds.fed;
      total = c.in_ok-next.ensures.spends.total ∙ inv.total;
      few = omega (arith, inv.few, c.in_ok-next.ensures.spends.budget more);
      one_source = c.next_line.ensures.same_source;
      input_counts = omega (arith, inv.input_counts, c.next_line.ensures.cause.later);
      output_counts = omega (arith, inv.output_counts, part.counts);
    }

pub end_lines-requires : goal.end_lines-requires
end_lines-requires g c = record { closed = c.loop-feed.invariant.servers.closed; feed = is_feed c.loop-feed.number c.loop-feed.feed c.loop-feed.invariant.feeds }

pub returns-in_err-refused : goal.returns-in_err-refused
returns-in_err-refused g c =
    let kept = g.K.Keeper.kept in
    let s0 = c.args.sites.now in
    let s1 = c.loop-feed.sites in
    let s2 = c.end_lines.new.sites in
    let inv = c.loop-feed.invariant in
    let left = g.I.Source.left c.args.input.now in
    let before = left_of c.loop-feed.lines (g.I.Source.left c.loop-feed.input) in
    let now = left_of c.next_line.new.self (g.I.Source.left c.next_line.new.source) in
    let t = g.O.Sink.taken c.args.output.now in
    let u = g.O.Sink.taken c.loop-feed.output in
    let u2 = g.O.Sink.taken c.end_lines.new.output in
    let count = g.O.Sink.faults c.args.output.now in
    let later = g.O.Sink.faults c.end_lines.new.output in
    let e = c.in_err-refused.field-0.0 in
    let ended = is_ended c.in_ok-next.next (sym c.is_end.ensures ∙ c.if-is_end.true) in
    let part = c.in_err-refused.ensures in
    let cause = later_cause kept s0 s1 s2 count (g.O.Sink.faults c.loop-feed.output) later e inv.servers
    (still_stands kept s0 s1 s1 inv.servers.names c.args.server left t u u c.loop-feed.feed c.loop-feed.number before inv.going) inv.output_counts part.cause in
    reading_err c.from_residual-in_err-refused.result c.from_residual-in_err-refused.ensures.1 (record {
      ok = tt;
      stopped = end_stopped kept s0 s1 s2 inv.servers.names c.args.server left t u u2 c.loop-feed.feed c.loop-feed.number before now inv.going c.in_ok-next.next c.next_line.new.line.items c.in_ok-next.ensures.line ended part.stopped;
      ended = part_blamed kept s0 s2 left (g.I.Source.faults c.args.input.now) (g.I.Source.faults c.next_line.new.source) count later e cause;
      servers = keeps_then kept s0 s1 s2 inv.servers part.servers;
      cause = cause.servers;
      counts = omega (arith, inv.output_counts, part.counts);
    })

pub returns : goal.returns
returns g c =
    let kept = g.K.Keeper.kept in
    let s0 = c.args.sites.now in
    let s1 = c.loop-feed.sites in
    let s2 = c.end_lines.new.sites in
    let inv = c.loop-feed.invariant in
    let left = g.I.Source.left c.args.input.now in
    let later = g.I.Source.left c.loop-feed.input in
    let before = left_of c.loop-feed.lines later in
    let now = left_of c.next_line.new.self (g.I.Source.left c.next_line.new.source) in
    let t = g.O.Sink.taken c.args.output.now in
    let u = g.O.Sink.taken c.loop-feed.output in
    let u2 = g.O.Sink.taken c.end_lines.new.output in
    let line = c.next_line.new.line.items in
    let ended = is_ended c.in_ok-next.next (sym c.is_end.ensures ∙ c.if-is_end.true) in
    record {
      ok = subst (λ (b : Bool). ReadsAll kept s0 s2 left t u2 (input_events c.args.server) (b || c.in_ok-refused.refused)) (sym (none_is c.loop-feed.feed c.is_none-before.result c.is_none-before.ensures)) (end_fed kept s0 s1 s2 inv.servers.names c.args.server left t u u2 c.loop-feed.feed c.loop-feed.number before now inv.going c.in_ok-next.next line c.in_ok-next.ensures.line ended c.in_ok-refused.refused c.in_ok-refused.ensures.ok);
      stopped = tt;
      ended = all_read left later (g.I.Source.left c.next_line.new.source) c.loop-feed.lines c.next_line.new.self line inv.total (subst (λ (n : Next). ReadsLine n line before now) ended c.in_ok-next.ensures.line) c.in_ok-next.ensures.spends.total c.next_line.new.self.limited;
      servers = keeps_then kept s0 s1 s2 inv.servers c.end_lines.ensures.servers;
      cause = tt;
      counts = omega (arith, inv.output_counts, c.end_lines.ensures.counts);
    }
