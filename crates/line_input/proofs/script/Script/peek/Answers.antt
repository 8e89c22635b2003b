use Rattle.std.proofs.Common.{◌≡◌, ◌∙◌, ◌<◌, None, sym, ap, subst, arith, rules}
use Rattle.line_input.specs.Input.{left_of, total_of, budget, NothingAfterEnd}
use Rattle.line_input.specs.declared.input.Input.{Input}
use Rattle.line_input.specs.Script.{next_kind}
use Rattle.line_input.proofs.Left.{left_if_none, waits_line, waits_long, pending_falls, nothing_waits, few_wait, short_waits, long_waits}
use Rattle.line_input.proofs.script.Script.peek.Goals as goal

pub loop-self-preserved-in-Line : goal.loop-self-preserved-in-Line
loop-self-preserved-in-Line g c =
    let none : next_kind c.loop-self.self ≡ None = search rules in
    let spent : budget c.next_line.new.self < budget c.loop-self.self.input = c.in_ok-next_line.ensures.spends.budget (λ end. cc) in
    record {
      lines = waits_line c.loop-self.self c.keep_line.new.self c.next_line.new.self (g.I.Source.left c.next_line.new.source) (left_of c.loop-self.self.input (g.I.Source.left c.loop-self.source)) c.next_line.new.line.items
          c.keep_line.ensures.input c.keep_line.ensures.number c.keep_line.ensures.text c.keep_line.ensures.kind (rw c.in-Line.is at c.in_ok-next_line.ensures.line)
          ∙ sym (left_if_none c.loop-self.self (g.I.Source.left c.loop-self.source) none) ∙ c.loop-self.invariant.lines;
      total = ap (λ (i : Input). total_of i (g.I.Source.left c.next_line.new.source)) c.keep_line.ensures.input ∙ c.in_ok-next_line.ensures.spends.total ∙ c.loop-self.invariant.total;
      pending = omega (arith, pending_falls c.loop-self.self c.keep_line.new.self c.next_line.new.self c.keep_line.ensures.input spent);
      number = omega (arith, c.loop-self.invariant.number, nothing_waits c.loop-self.self none, few_wait c.keep_line.new.self, c.keep_line.ensures.number);
      line = λ _. short_waits c.keep_line.new.self c.next_line.new.line.items c.keep_line.ensures.text c.keep_line.ensures.kind (rw c.in-Line.is at c.in_ok-next_line.ensures.whole);
      one_source = subst (λ (i : Input). NothingAfterEnd i (g.I.Source.left c.next_line.new.source)) (sym c.keep_line.ensures.input) c.next_line.ensures.same_source;
      counts = omega (arith, c.loop-self.invariant.counts, c.next_line.ensures.cause.later);
    }

pub loop-self-preserved : goal.loop-self-preserved
loop-self-preserved g c =
    let none : next_kind c.loop-self.self ≡ None = search rules in
    let spent : budget c.next_line.new.self < budget c.loop-self.self.input = c.in_ok-next_line.ensures.spends.budget (λ end. cc) in
    record {
      lines = waits_long c.loop-self.self c.keep_long_line.new.self c.next_line.new.self (g.I.Source.left c.next_line.new.source) (left_of c.loop-self.self.input (g.I.Source.left c.loop-self.source)) c.next_line.new.line.items
          c.keep_long_line.ensures.input c.keep_long_line.ensures.number c.keep_long_line.ensures.text c.keep_long_line.ensures.kind (rw c.in-LongLine.is at c.in_ok-next_line.ensures.line)
          ∙ sym (left_if_none c.loop-self.self (g.I.Source.left c.loop-self.source) none) ∙ c.loop-self.invariant.lines;
      total = ap (λ (i : Input). total_of i (g.I.Source.left c.next_line.new.source)) c.keep_long_line.ensures.input ∙ c.in_ok-next_line.ensures.spends.total ∙ c.loop-self.invariant.total;
      pending = omega (arith, pending_falls c.loop-self.self c.keep_long_line.new.self c.next_line.new.self c.keep_long_line.ensures.input spent);
      number = omega (arith, c.loop-self.invariant.number, nothing_waits c.loop-self.self none, few_wait c.keep_long_line.new.self, c.keep_long_line.ensures.number);
      line = λ _. long_waits c.keep_long_line.new.self c.next_line.new.line.items c.keep_long_line.ensures.text c.keep_long_line.ensures.kind (rw c.in-LongLine.is at c.in_ok-next_line.ensures.whole);
      one_source = subst (λ (i : Input). NothingAfterEnd i (g.I.Source.left c.next_line.new.source)) (sym c.keep_long_line.ensures.input) c.next_line.ensures.same_source;
      counts = omega (arith, c.loop-self.invariant.counts, c.next_line.ensures.cause.later);
    }
