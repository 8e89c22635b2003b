use Rattle.std.proofs.Common.{arith, length-drop}
use Rattle.site_store.specs.Words.{takes_on}
use Rattle.shows.proofs.Written.{prefix_on}
use Rattle.shows.proofs.Passed.{on_err}
use Rattle.shows.proofs.show.write_lines.Goals as goal

pub returns-in_err-write_line-clause-err : goal.returns-in_err-write_line-clause-err
returns-in_err-write_line-clause-err g c = on_err c.from_residual.result (prefix_on (g.O.Sink.taken c.args.output.now) (g.O.Sink.taken c.loop-at.output) (g.O.Sink.taken c.write_line.new.output) c.args.text.now c.loop-at.at c.first_line-count.result c.loop-at.invariant.so_far c.in_err-write_line.ensures.err)

pub loop-at-preserved : goal.loop-at-preserved
loop-at-preserved g c = record {
  within = omega (arith, c.first_line-count.ensures.within, length-drop c.loop-at.at c.args.text.now);
  so_far = takes_on (g.O.Sink.taken c.args.output.now) (g.O.Sink.taken c.loop-at.output) (g.O.Sink.taken c.write_line.new.output) c.args.text.now c.loop-at.at c.first_line-count.result c.loop-at.invariant.so_far c.in_ok-write_line.ensures.ok;
  counts = omega arith;
}
