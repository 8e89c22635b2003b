use Rattle.std.proofs.Common.{◌≤◌, ◌-◌, length, take}
use Rattle.site_store.specs.Words.{Takes}
use Rattle.shows.proofs.show.write_lines.Given as goal

abbrev pub invariant-loop-at : goal.invariant-loop-at
invariant-loop-at g l = record {
  within : l.at ≤ length l.text;
  so_far : Takes (g.O.Sink.taken l.fn.output) (g.O.Sink.taken l.output) (take l.at l.text);
  counts : g.O.Sink.faults l.fn.output ≤ g.O.Sink.faults l.output;
}

abbrev pub decreases-loop-at : goal.decreases-loop-at
decreases-loop-at g l = length l.text - l.at
