use Rattle.std.proofs.Common.{rules}
use Rattle.site_store.proofs.Names.{found, none_more}
use Rattle.site_store.proofs.sites.place_of.Goals as goal

pub returns-then-eq : goal.returns-then-eq
returns-then-eq g c = found c.args.list.now c.loop-place.place c.index-list-place.result c.args.name.now c.loop-place-test.true c.index-list-place.is (search rules)

pub loop-place-preserved : goal.loop-place-preserved
loop-place-preserved g c = none_more c.args.list.now c.loop-place.place c.index-list-place.result c.args.name.now c.loop-place-test.true c.index-list-place.is (search rules) c.loop-place.invariant
