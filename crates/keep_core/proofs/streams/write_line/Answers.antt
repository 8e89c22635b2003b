use Rattle.std.proofs.Common.{◌∙◌, arith, length-drop}
use Rattle.std.proofs.lemmas.Result.{err_from_is_err_and}
use Rattle.keep_core.specs.laws.Revealed.{takes_on, takes_prefix, takes_short}
use Rattle.keep_core.proofs.streams.write_line.Goals as goal

pub returns-in_err-at-clause-err : goal.returns-in_err-at-clause-err
returns-in_err-at-clause-err g c =
    let exit = err_from_is_err_and c.from_residual.result c.from_residual.ensures.1 in
    rw exit.1 (takes_prefix (g.O.Sink.taken c.args.output.now) (g.O.Sink.taken c.write.new.self) c.args.line.now c.loop-at.at (c.in_err-at.ensures.err ∙ c.loop-at.invariant.so_far))

pub returns-in_err-at-clause-short : goal.returns-in_err-at-clause-short
returns-in_err-at-clause-short g c =
    let exit = err_from_is_err_and c.from_residual.result c.from_residual.ensures.1 in
    rw exit.1 (takes_short (g.O.Sink.taken c.args.output.now) (g.O.Sink.taken c.write.new.self) c.args.line.now c.loop-at.at (omega arith) (c.in_err-at.ensures.err ∙ c.loop-at.invariant.so_far))

pub loop-at-preserved : goal.loop-at-preserved
loop-at-preserved g c = record {
  within = omega (arith, c.in_ok-at.ensures.within, length-drop c.loop-at.at c.args.line.now);
  so_far = takes_on (g.O.Sink.taken c.args.output.now) (g.O.Sink.taken c.loop-at.output) (g.O.Sink.taken c.write.new.self) c.args.line.now c.loop-at.at c.in_ok-at.field-0 c.loop-at.invariant.so_far c.in_ok-at.ensures.ok;
  counts = omega arith;
}
