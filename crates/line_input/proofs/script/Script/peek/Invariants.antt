use Rattle.std.proofs.Common.{◌≡◌, ◌≤◌, ◌+◌, None, IfSome}
use Rattle.line_input.specs.Input.{budget}
use Rattle.line_input.specs.Script.{next_kind, line_number, line_text, lines_left, total_left, pending, waiting, HasOneSource, IsLineOf}
use Rattle.line_input.proofs.script.Script.peek.Given as goal

abbrev pub invariant-loop-self : goal.invariant-loop-self
invariant-loop-self g l = record {
  lines : lines_left l.self (g.I.Source.left l.source) ≡ lines_left l.fn.self (g.I.Source.left l.fn.source);
  total : total_left l.self (g.I.Source.left l.source) ≡ total_left l.fn.self (g.I.Source.left l.fn.source);
  pending : pending l.self ≤ pending l.fn.self;
  number : line_number l.fn.self + waiting l.self ≤ line_number l.self + waiting l.fn.self;
  line : next_kind l.fn.self ≡ None → IfSome (next_kind l.self) (λ k. IsLineOf k (line_text l.self));
  one_source : HasOneSource l.self (g.I.Source.left l.source);
  counts : g.I.Source.faults l.fn.source ≤ g.I.Source.faults l.source;
}

abbrev pub decreases-loop-self : goal.decreases-loop-self
decreases-loop-self g l = budget l.self.input
