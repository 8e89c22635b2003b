use Rattle.std.proofs.Common.{◌≡◌, ◌≤◌, false}
use Rattle.line_input.specs.Input.{left_of, total_of, budget, has_ended}
use Rattle.line_input.proofs.LineBytes.{ReadSoFar}
use Rattle.line_input.proofs.input.Input.next_line.Given as goal

abbrev pub invariant-loop-byte : goal.invariant-loop-byte
invariant-loop-byte g l = record {
  line : ReadSoFar (left_of l.fn.self (g.I.Source.left l.fn.source)) (left_of l.self (g.I.Source.left l.source)) (budget l.fn.self) (budget l.self) l.line.items l.long;
  open_still : has_ended l.self ≡ false;
  total : total_of l.self (g.I.Source.left l.source) ≡ total_of l.fn.self (g.I.Source.left l.fn.source);
  counts : g.I.Source.faults l.fn.source ≤ g.I.Source.faults l.source;
}

abbrev pub decreases-loop-byte : goal.decreases-loop-byte
decreases-loop-byte g l = budget l.self
