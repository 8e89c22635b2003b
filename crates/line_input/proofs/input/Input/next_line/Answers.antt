use Rattle.std.proofs.Common.{true, ◌+◌, ◌≤◌, ◌<◌, ◌++◌, ◌∷◌, [], length, Ok, ap, ◌∙◌, arith}
use Rattle.line_input.specs.Input.{left_of, budget, kept_limit}
use Rattle.line_input.proofs.LineBytes.{parts-pushed, kept_over, line_read_more, kept-pushed, kept-passed, read_to_feed, read_to_end, some_read, text_at_feed, text_at_end}
use Rattle.line_input.proofs.input.Input.next_line.Goals as goal

pub returns-then-byte-eq10-clause-line : goal.returns-then-byte-eq10-clause-line
returns-then-byte-eq10-clause-line g c =
    let read = c.loop-byte.invariant.line in
    let next = rw (c.in-Some.is, c.if-byte-eq10.true) at c.in_ok-byte.ensures.left in
    read_to_feed c.end_line.result c.end_line.new.line.items (left_of c.args.self.now (g.I.Source.left c.args.source.now)) (left_of c.loop-byte.self (g.I.Source.left c.loop-byte.source)) (left_of c.next_byte.new.self (g.I.Source.left c.next_byte.new.source))
    read.so_far read.plain read.parts next (c.end_line.ensures.ends read.so_far read.kept)

pub loop-byte-preserved-in-Continue-branch-3 : goal.loop-byte-preserved-in-Continue-branch-3
loop-byte-preserved-in-Continue-branch-3 g c =
    let read = c.loop-byte.invariant.line in
    let byte = c.in-Some.byte in
    let fewer : budget c.next_byte.new.self + 1 ≤ budget c.loop-byte.self = rw c.in-Some.is at c.in_ok-byte.ensures.budget in
    let few : length c.loop-byte.line.items < kept_limit = omega arith in
    record {
      line = rw c.in_ok-push.ensures.items (line_read_more read byte (c.loop-byte.line.items ++ byte ∷ []) c.loop-byte.long (rw c.in-Some.is at c.in_ok-byte.ensures.left) fewer c.if-byte-eq10.false
          (kept-pushed read.so_far c.loop-byte.line.items c.loop-byte.long byte read.kept few));
      open_still = rw c.in-Some.is at c.in_ok-byte.ensures.ends;
      total = c.in_ok-byte.ensures.total ∙ c.loop-byte.invariant.total;
      counts = omega (arith, c.loop-byte.invariant.counts, c.next_byte.ensures.cause.later);
    }

pub loop-byte-preserved : goal.loop-byte-preserved
loop-byte-preserved g c =
    let read = c.loop-byte.invariant.line in
    let byte = c.in-Some.byte in
    let fewer : budget c.next_byte.new.self + 1 ≤ budget c.loop-byte.self = rw c.in-Some.is at c.in_ok-byte.ensures.budget in
    let many : kept_limit ≤ length c.loop-byte.line.items = omega arith in
    record {
      line = line_read_more read byte c.loop-byte.line.items true (rw c.in-Some.is at c.in_ok-byte.ensures.left) fewer c.if-byte-eq10.false
          (kept-passed read.so_far c.loop-byte.line.items c.loop-byte.long byte read.kept many);
      open_still = rw c.in-Some.is at c.in_ok-byte.ensures.ends;
      total = c.in_ok-byte.ensures.total ∙ c.loop-byte.invariant.total;
      counts = omega (arith, c.loop-byte.invariant.counts, c.next_byte.ensures.cause.later);
    }

pub returns-clause-line : goal.returns-clause-line
returns-clause-line g c =
    let read = c.loop-byte.invariant.line in
    let ends = rw c.deref.ensures.value at c.last.ensures in
    read_to_end c.last.result c.loop-byte.line.items (left_of c.args.self.now (g.I.Source.left c.args.source.now)) (left_of c.loop-byte.self (g.I.Source.left c.loop-byte.source)) (left_of c.next_byte.new.self (g.I.Source.left c.next_byte.new.source))
    read.so_far read.plain read.parts (rw c.in_default.is at c.in_ok-byte.ensures.left) (c.next_byte.ensures.end (c.in_ok-byte.was ∙ ap Ok c.in_default.is)) (ends read.so_far read.kept)

pub returns-then-byte-eq10-clause-spends : goal.returns-then-byte-eq10-clause-spends
returns-then-byte-eq10-clause-spends g c =
    let read = c.loop-byte.invariant.line in
    let fewer : budget c.next_byte.new.self + 1 ≤ budget c.loop-byte.self = rw c.in-Some.is at c.in_ok-byte.ensures.budget in
    record {
      total = c.in_ok-byte.ensures.total ∙ c.loop-byte.invariant.total;
      budget = λ _. omega (arith, read.spent);
    }

pub returns-then-byte-eq10-clause-meets_end : goal.returns-then-byte-eq10-clause-meets_end
returns-then-byte-eq10-clause-meets_end g c = λ _.
    let read = c.loop-byte.invariant.line in
    let next = rw (c.in-Some.is, c.if-byte-eq10.true) at c.in_ok-byte.ensures.left in
    let fewer : budget c.next_byte.new.self + 1 ≤ budget c.loop-byte.self = rw c.in-Some.is at c.in_ok-byte.ensures.budget in
    record {
      bytes = read.so_far;
      parts = parts-pushed (left_of c.args.self.now (g.I.Source.left c.args.source.now)) (left_of c.loop-byte.self (g.I.Source.left c.loop-byte.source)) (left_of c.next_byte.new.self (g.I.Source.left c.next_byte.new.source)) read.so_far 10 read.parts next;
      spent = omega (arith, read.spent);
      holds = omega (arith, c.end_line.ensures.shorter, kept_over read.so_far c.loop-byte.line.items c.loop-byte.long read.kept);
    }

pub returns-then-byte-eq10-clause-cause : goal.returns-then-byte-eq10-clause-cause
returns-then-byte-eq10-clause-cause g c = record {
  later = omega (arith, c.loop-byte.invariant.counts, c.next_byte.ensures.cause.later);
  failed = λ e. absurd cc;
  too_long = λ e. absurd cc;
}

pub returns-clause-spends : goal.returns-clause-spends
returns-clause-spends g c =
    let read = c.loop-byte.invariant.line in
    let ends = rw c.deref.ensures.value at c.last.ensures in
    let fewer : budget c.next_byte.new.self ≤ budget c.loop-byte.self = omega (arith, c.in_ok-byte.ensures.budget) in
    record {
      total = c.in_ok-byte.ensures.total ∙ c.loop-byte.invariant.total;
      budget = λ ne. let some = some_read c.last.result c.loop-byte.line.items read.so_far (ends read.so_far read.kept) ne in omega (arith, read.spent);
    }

pub returns-then-byte-eq10-clause-whole : goal.returns-then-byte-eq10-clause-whole
returns-then-byte-eq10-clause-whole g c =
    let read = c.loop-byte.invariant.line in
    text_at_feed c.end_line.result c.end_line.new.line.items read.so_far read.plain (c.end_line.ensures.ends read.so_far read.kept)

pub returns-clause-whole : goal.returns-clause-whole
returns-clause-whole g c =
    let read = c.loop-byte.invariant.line in
    let ends = rw c.deref.ensures.value at c.last.ensures in
    text_at_end c.last.result c.loop-byte.line.items read.so_far read.plain (ends read.so_far read.kept)
