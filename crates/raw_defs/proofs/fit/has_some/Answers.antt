use Rattle.std.proofs.Common.{arith}
use Rattle.raw_defs.proofs.Items.{has_some-view}
use Rattle.raw_defs.proofs.fit.has_some.Goals as goal

pub returns : goal.returns
returns c = rw c.is_empty.ensures (has_some-view c.args.items.now.items c.args.items.now.len (omega arith))
