use Rattle.std.proofs.Common.{◌≤◌, ◌-◌, length, take}
use Rattle.keep_core.specs.Revealed.{Takes}
use Rattle.keep_core.proofs.streams.write_line.Given as goal

abbrev pub invariant-loop-at : goal.invariant-loop-at
invariant-loop-at g l = record {
  within : l.at ≤ length l.line;
  so_far : Takes (g.O.Sink.taken l.fn.output) (g.O.Sink.taken l.output) (take l.at l.line);
  counts : g.O.Sink.faults l.fn.output ≤ g.O.Sink.faults l.output;
}

abbrev pub decreases-loop-at : goal.decreases-loop-at
decreases-loop-at g l = length l.line - l.at
