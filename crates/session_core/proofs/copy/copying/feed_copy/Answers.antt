use Rattle.std.proofs.Common.{List, [], ℕ, subst, arith, Some, codes}
use Rattle.site_store.specs.Words.{keeps_then}
use Rattle.repl_model.specs.Words.{World}
use Rattle.run_core.specs.Runs.{Event}
use Rattle.run_commands.specs.parts.Parts.{IsPart}
use Rattle.run_commands.specs.parts.laws.Exits.{if_err_also}
use Rattle.session_core.specs.copy.CopyEvents.{shown_events, fed_events}
use Rattle.session_core.specs.copy.Showing.{KeepsRefusals}
use Rattle.session_core.specs.copy.fed.FedInput.{input_events}
use Rattle.session_core.specs.copy.unwritten.laws.Causes.{streams_unwritten, servers_later}
use Rattle.session_core.proofs.CopyFeeding.{feed_stopped, shown_read, shown_unread, shown_ended}
use Rattle.session_core.proofs.CopyReading.{nothing_read_part, reading_err, reads_stand}
use Rattle.session_core.proofs.CopyRefusals.{some_fed}
use Rattle.session_core.proofs.copy.copying.feed_copy.Goals as goal

pub returns-in_err-source : goal.returns-in_err-source
returns-in_err-source g c = reading_err c.from_residual.result c.from_residual.ensures.1 (nothing_read_part fed_events c.requires)

pub feed_input-requires : goal.feed_input-requires
feed_input-requires g c = c.requires

pub returns-in_err-refused : goal.returns-in_err-refused
returns-in_err-refused g c =
    let kept = g.K.Keeper.kept in
    let s0 = c.args.sites.now in
    let s1 = c.feed_input.new.sites in
    let left = g.I.Source.left in
    let reads = g.I.Source.faults in
    let i = c.args.input.now in
    let j = c.feed_input.new.input in
    let e = c.in_err-refused.field-0.0 in
    let lines = c.feed_input.new.output in
    let count = g.O.Sink.faults c.args.output.now in
    let part = rw (c.new-lines.ensures, c.in_ok-source.ensures) at c.in_err-refused.ensures in
    reading_err c.from_residual-in_err-refused.result c.from_residual-in_err-refused.ensures.1 (record {
      ok = tt;
      stopped = feed_stopped kept s0 s1 (g.O.Sink.taken c.args.output.now) (Some lines) (left i) part.stopped;
      ended = streams_unwritten (left i) (reads i) (reads j) count count e part.ended;
      servers = part.servers;
      cause = part.cause;
      counts = omega arith;
    })

pub show_fed-requires : goal.show_fed-requires
show_fed-requires g c = c.feed_input.ensures.servers.closed

pub returns : goal.returns
returns g c =
    let kept = g.K.Keeper.kept in
    let taken = g.O.Sink.taken in
    let faults = g.O.Sink.faults in
    let s0 = c.args.sites.now in
    let s1 = c.feed_input.new.sites in
    let s2 = c.show_fed.new.sites in
    let left = g.I.Source.left in
    let reads = g.I.Source.faults in
    let i = c.args.input.now in
    let j = c.feed_input.new.input in
    let o = c.args.output.now in
    let p = c.show_fed.new.output in
    let lines = c.feed_input.new.output in
    let refused = c.in_ok-refused.refused in
    let r = c.show_fed.result in
    let part = rw (c.new-lines.ensures, c.in_ok-source.ensures) at c.in_ok-refused.ensures in
    let shown = subst (λ (bytes : List ℕ). (fed : List (Event World)) → KeepsRefusals fed bytes refused → IsPart kept taken faults s1 s2 o p (shown_events fed) (λ any. any) r) c.bytes.ensures c.show_fed.ensures in
    let some = some_fed lines refused in
    let whole = shown some.0 some.1 in
    record {
      ok = shown_read kept s0 s1 s2 part.servers.names (taken o) (taken p) lines refused (left i) r part.ok (λ fed known. (shown fed known).ok);
      stopped = shown_unread kept s0 s1 s2 part.servers.names (taken o) (taken p) lines refused (left i) r part.ok (λ fed known. (shown fed known).stopped);
      ended = shown_ended kept s1 s2 (left i) (left j) (reads i) (reads j) (faults o) (faults p) r part.ended whole.cause;
      servers = keeps_then kept s0 s1 s2 part.servers whole.servers;
      cause = if_err_also r (λ e cause. servers_later kept s0 s1 s2 e part.servers (reads_stand kept s0 s1 (left i) (Some []) (Some lines) (input_events (codes "src")) refused part.ok) cause.servers) whole.cause;
      counts = whole.counts;
    }
