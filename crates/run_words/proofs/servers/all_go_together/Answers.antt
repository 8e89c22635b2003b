use Rattle.std.proofs.Common.{sym, ◌∙◌}
use Rattle.run_words.specs.Openings.{GoTogether}
use Rattle.run_words.proofs.Together.{goes_with_earlier, more_go_together}
use Rattle.run_words.proofs.servers.all_go_together.Goals as goal

pub returns-then-not-goes_with : goal.returns-then-not-goes_with
returns-then-not-goes_with c = (
  λ no. absurd cc,
  λ pairs.
      sym c.if-not-goes_with.true ∙ c.goes_with.ensures.1 (goes_with_earlier GoTogether c.args.servers.now c.loop-place.place c.index-servers-place.result c.loop-place-test.true c.index-servers-place.is pairs),
)

pub loop-place-preserved : goal.loop-place-preserved
loop-place-preserved c = more_go_together GoTogether c.args.servers.now c.loop-place.place c.index-servers-place.result c.loop-place-test.true c.index-servers-place.is (c.goes_with.ensures.0 c.if-not-goes_with.false) c.loop-place.invariant
