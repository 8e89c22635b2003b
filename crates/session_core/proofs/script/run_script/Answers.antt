use Rattle.std.proofs.Common.{◌≤◌, ◌∙◌, ◌+◌, ◌||◌, ℕ, Ok, Err, refl, rules, sym, ap, subst, arith}
use Rattle.world_store.specs.Words.{Stands}
use Rattle.site_store.specs.Words.{names, held, keeps_itself, keeps_then}
use Rattle.repl_model.specs.Words.{World}
use Rattle.line_input.specs.Script.{lines_left, line_number, total_left}
use Rattle.run_commands.specs.parts.laws.Parts.{later_cause}
use Rattle.session_core.specs.Bodies.{KeepsBodies}
use Rattle.session_core.specs.Lines.{GoesOn}
use Rattle.session_core.specs.Talk.{script_events}
use Rattle.session_core.specs.copy.unwritten.laws.Causes.{part_blamed}
use Rattle.session_core.proofs.Answered.{line_answered, line_stopped, end_answered, end_stopped}
use Rattle.session_core.proofs.CopyEnds.{input_blamed, input_unblamed}
use Rattle.session_core.proofs.CopyReading.{nothing_read_part, reading_err}
use Rattle.session_core.proofs.Feeding.{is_feed, keeps_later, later_number}
use Rattle.session_core.proofs.Going.{begins, stands_now, stops_here}
use Rattle.session_core.proofs.script.run_script.Goals as goal

pub returns-in_err-script : goal.returns-in_err-script
returns-in_err-script g c = reading_err c.from_residual.result c.from_residual.ensures.1 (nothing_read_part script_events c.requires)

pub loop-bodies-init : goal.loop-bodies-init
loop-bodies-init g c = record {
  going = λ w at. begins (Stands (names c.args.sites.now)) w (held g.K.Keeper.kept c.args.sites.now) (g.O.Sink.taken c.args.output.now) at (g.I.Source.left c.args.input.now) (line_number c.in_ok-script.script) (lines_left c.in_ok-script.script (g.I.Source.left c.args.input.now))
      c.in_ok-script.ensures.number (c.in_ok-script.ensures.lines (g.I.Source.left c.args.input.now));
  servers = keeps_itself g.K.Keeper.kept c.args.sites.now c.requires;
  none = c.in_ok-script.ensures.none;
  keeps = tt;
  total = c.in_ok-script.ensures.total (g.I.Source.left c.args.input.now);
  one_source = c.in_ok-script.ensures.begins (g.I.Source.left c.args.input.now);
  input_counts = omega arith;
  output_counts = omega arith;
}

pub returns-in_err-kind : goal.returns-in_err-kind
returns-in_err-kind g c =
    let kept = g.K.Keeper.kept in
    let s0 = c.args.sites.now in
    let s1 = c.loop-bodies.sites in
    let inv = c.loop-bodies.invariant in
    let left = g.I.Source.left c.args.input.now in
    let script = c.loop-bodies.script in
    let bodies = c.loop-bodies.bodies in
    let any = c.loop-bodies.refused in
    let lines = lines_left script (g.I.Source.left c.loop-bodies.input) in
    let t = g.O.Sink.taken c.args.output.now in
    let u = g.O.Sink.taken c.loop-bodies.output in
    let before = g.O.Sink.faults c.args.output.now in
    let e = c.in_err-kind.field-0.0 in
    reading_err c.from_residual-in_err-kind.result c.from_residual-in_err-kind.ensures.1 (record {
      ok = tt;
      stopped = λ w at. stops_here (Stands (names s0)) w (held kept s1) t u bodies any left (line_number script) lines (inv.going w at);
      ended = input_blamed left (total_left script (g.I.Source.left c.loop-bodies.input)) (g.I.Source.faults c.args.input.now) (g.I.Source.faults c.loop-bodies.input) (g.I.Source.faults c.peek.new.source) before (g.O.Sink.faults c.loop-bodies.output) (Err e) e refl inv.total inv.input_counts c.in_err-kind.ensures.cause;
      servers = inv.servers;
      cause = input_unblamed kept s0 s1 e;
      counts = inv.output_counts;
    })

pub end_bodies-requires : goal.end_bodies-requires
end_bodies-requires g c = record { closed = c.loop-bodies.invariant.servers.closed; bodies = is_feed (line_number c.loop-bodies.script + 1) c.loop-bodies.bodies c.loop-bodies.invariant.keeps }

pub returns-in_err-ended : goal.returns-in_err-ended
returns-in_err-ended g c =
    let kept = g.K.Keeper.kept in
    let s0 = c.args.sites.now in
    let s1 = c.loop-bodies.sites in
    let inv = c.loop-bodies.invariant in
    let left = g.I.Source.left c.args.input.now in
    let script = c.loop-bodies.script in
    let bodies = c.loop-bodies.bodies in
    let any = c.loop-bodies.refused in
    let lines = lines_left script (g.I.Source.left c.loop-bodies.input) in
    let t = g.O.Sink.taken c.args.output.now in
    let u = g.O.Sink.taken c.loop-bodies.output in
    let before = g.O.Sink.faults c.args.output.now in
    let stands = λ (w : World) (at : Stands (names s0) (held kept s0) w). stands_now (Stands (names s0)) w (held kept s1) t u bodies any left (line_number script) lines (inv.going w at) in
    let s2 = c.end_bodies.new.sites in
    let later = g.O.Sink.faults c.end_bodies.new.output in
    let e = c.in_err-ended.field-0.0 in
    let part = c.in_err-ended.ensures in
    let cause = later_cause kept s0 s1 s2 before (g.O.Sink.faults c.loop-bodies.output) later e inv.servers stands inv.output_counts part.cause in
    reading_err c.from_residual-in_err-ended.result c.from_residual-in_err-ended.ensures.1 (record {
      ok = tt;
      stopped = end_stopped kept s0 s1 s2 inv.servers.names left t u (g.O.Sink.taken c.end_bodies.new.output) bodies any script c.peek.new.self (g.I.Source.left c.loop-bodies.input) (g.I.Source.left c.peek.new.source) inv.going c.in_ok-kind.ensures.lines (c.peek.ensures.end (c.in_ok-kind.was ∙ ap Ok c.in_default.is)) part.stopped;
      ended = part_blamed kept s0 s2 left (g.I.Source.faults c.args.input.now) (g.I.Source.faults c.peek.new.source) before later e cause;
      servers = keeps_then kept s0 s1 s2 inv.servers part.servers;
      cause = cause.servers;
      counts = omega (arith, inv.output_counts, part.counts);
    })

pub returns : goal.returns
returns g c =
    let kept = g.K.Keeper.kept in
    let s0 = c.args.sites.now in
    let s1 = c.loop-bodies.sites in
    let inv = c.loop-bodies.invariant in
    let left = g.I.Source.left c.args.input.now in
    let script = c.loop-bodies.script in
    let bodies = c.loop-bodies.bodies in
    let any = c.loop-bodies.refused in
    let lines = lines_left script (g.I.Source.left c.loop-bodies.input) in
    let t = g.O.Sink.taken c.args.output.now in
    let u = g.O.Sink.taken c.loop-bodies.output in
    let before = g.O.Sink.faults c.args.output.now in
    let s2 = c.end_bodies.new.sites in
    let part = c.in_ok-ended.ensures in
    record {
      ok = end_answered kept s0 s1 s2 inv.servers.names left t u (g.O.Sink.taken c.end_bodies.new.output) bodies any script c.peek.new.self (g.I.Source.left c.loop-bodies.input) (g.I.Source.left c.peek.new.source) inv.going c.in_ok-kind.ensures.lines (c.peek.ensures.end (c.in_ok-kind.was ∙ ap Ok c.in_default.is)) c.in_ok-ended.ended part.ok;
      stopped = tt;
      ended = search rules;
      servers = keeps_then kept s0 s1 s2 inv.servers part.servers;
      cause = tt;
      counts = omega (arith, inv.output_counts, part.counts);
    }

pub answer_line-requires : goal.answer_line-requires
answer_line-requires g c =
    let le : line_number c.loop-bodies.script + 1 ≤ c.number-number.result = later_number c.loop-bodies.script c.peek.new.self c.in-Some.kind c.number-number.result c.loop-bodies.invariant.none (sym c.in_ok-kind.ensures.kind ∙ c.in-Some.is) c.in_ok-kind.ensures.number (c.number-number.ensures.is ∙ c.take.ensures.number) in
    record {
      closed = c.loop-bodies.invariant.servers.closed;
      bodies = keeps_later (line_number c.loop-bodies.script + 1) c.number-number.result c.loop-bodies.bodies le c.loop-bodies.invariant.keeps;
      few = c.number-number.ensures.few;
    }

pub returns-in_err-answer : goal.returns-in_err-answer
returns-in_err-answer g c =
    let kept = g.K.Keeper.kept in
    let s0 = c.args.sites.now in
    let s1 = c.loop-bodies.sites in
    let inv = c.loop-bodies.invariant in
    let left = g.I.Source.left c.args.input.now in
    let script = c.loop-bodies.script in
    let bodies = c.loop-bodies.bodies in
    let any = c.loop-bodies.refused in
    let lines = lines_left script (g.I.Source.left c.loop-bodies.input) in
    let t = g.O.Sink.taken c.args.output.now in
    let u = g.O.Sink.taken c.loop-bodies.output in
    let before = g.O.Sink.faults c.args.output.now in
    let stands = λ (w : World) (at : Stands (names s0) (held kept s0) w). stands_now (Stands (names s0)) w (held kept s1) t u bodies any left (line_number script) lines (inv.going w at) in
    let s2 = c.answer_line.new.sites in
    let later = g.O.Sink.faults c.answer_line.new.output in
    let e = c.in_err-answer.field-0.0 in
    let part = c.in_err-answer.ensures.part in
    let number = c.number-number.result in
    let cause = later_cause kept s0 s1 s2 before (g.O.Sink.faults c.loop-bodies.output) later e inv.servers stands inv.output_counts part.cause in
    reading_err c.from_residual-in_err-answer.result c.from_residual-in_err-answer.ensures.1 (record {
      ok = tt;
      stopped = line_stopped kept s0 s1 s2 inv.servers.names left t u (g.O.Sink.taken c.answer_line.new.output) bodies any (line_number script) c.peek.new.self c.in-Some.kind number c.text.result.now lines (lines_left c.peek.new.self (g.I.Source.left c.peek.new.source)) (lines_left c.take.new.self (g.I.Source.left c.peek.new.source))
          inv.going c.in_ok-kind.ensures.lines (sym c.in_ok-kind.ensures.kind ∙ c.in-Some.is) (c.number-number.ensures.is ∙ c.take.ensures.number) (c.text.ensures ∙ c.take.ensures.text) (c.take.ensures.lines (g.I.Source.left c.peek.new.source))
          (rw c.in-Some.is at (c.in_ok-kind.ensures.line inv.none))
          (later_number script c.peek.new.self c.in-Some.kind number inv.none (sym c.in_ok-kind.ensures.kind ∙ c.in-Some.is) c.in_ok-kind.ensures.number (c.number-number.ensures.is ∙ c.take.ensures.number))
          part.stopped;
      ended = part_blamed kept s0 s2 left (g.I.Source.faults c.args.input.now) (g.I.Source.faults c.peek.new.source) before later e cause;
      servers = keeps_then kept s0 s1 s2 inv.servers part.servers;
      cause = cause.servers;
      counts = omega (arith, inv.output_counts, part.counts);
    })

pub loop-bodies-preserved : goal.loop-bodies-preserved
loop-bodies-preserved g c =
    let later = g.I.Source.left c.peek.new.source in
    let answer = c.in_ok-answer.answer in
    let part = c.in_ok-answer.ensures.part in
    let follows = c.in_ok-answer.ensures.bodies in
    let number = c.number-number.result in
    let same = c.number-number.ensures.is ∙ c.take.ensures.number in
    let going = line_answered g.K.Keeper.kept c.args.sites.now c.loop-bodies.sites c.answer_line.new.sites c.loop-bodies.invariant.servers.names (g.I.Source.left c.args.input.now) (g.O.Sink.taken c.args.output.now) (g.O.Sink.taken c.loop-bodies.output) (g.O.Sink.taken c.answer_line.new.output)
    c.loop-bodies.bodies c.loop-bodies.refused (line_number c.loop-bodies.script) c.peek.new.self c.in-Some.kind c.number-number.result c.text.result.now (lines_left c.loop-bodies.script (g.I.Source.left c.loop-bodies.input)) (lines_left c.peek.new.self later) (lines_left c.take.new.self later)
    c.loop-bodies.invariant.going c.in_ok-kind.ensures.lines (sym c.in_ok-kind.ensures.kind ∙ c.in-Some.is) (c.number-number.ensures.is ∙ c.take.ensures.number) (c.text.ensures ∙ c.take.ensures.text) (c.take.ensures.lines later)
    (rw c.in-Some.is at (c.in_ok-kind.ensures.line c.loop-bodies.invariant.none))
    (later_number c.loop-bodies.script c.peek.new.self c.in-Some.kind number c.loop-bodies.invariant.none (sym c.in_ok-kind.ensures.kind ∙ c.in-Some.is) c.in_ok-kind.ensures.number same)
    answer part.ok follows in
    record {
      going = λ w at. subst (λ (n : ℕ). GoesOn (Stands (names c.args.sites.now)) (g.I.Source.left c.args.input.now) w answer.bodies n (lines_left c.take.new.self later) (held g.K.Keeper.kept c.answer_line.new.sites) (g.O.Sink.taken c.args.output.now) (g.O.Sink.taken c.answer_line.new.output) (c.loop-bodies.refused || answer.refused)) c.number-number.ensures.is (going w at);
      servers = keeps_then g.K.Keeper.kept c.args.sites.now c.loop-bodies.sites c.answer_line.new.sites c.loop-bodies.invariant.servers part.servers;
      none = c.take.ensures.none;
      keeps = subst (λ (n : ℕ). KeepsBodies (n + 1) answer.bodies) c.number-number.ensures.is follows.keeps;
      total = c.take.ensures.total later ∙ c.in_ok-kind.ensures.total ∙ c.loop-bodies.invariant.total;
      one_source = c.take.ensures.same_source later c.peek.ensures.same_source;
      input_counts = omega (arith, c.loop-bodies.invariant.input_counts, c.peek.ensures.cause.later);
      output_counts = omega (arith, c.loop-bodies.invariant.output_counts, part.counts);
    }
