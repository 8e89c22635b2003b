use Rattle.std.proofs.Common.{arith}
use Rattle.rows_in_runs.specs.Rows.{keys_in}
use Rattle.rows_in_runs.specs.laws.Keys.{length_keys}
use Rattle.rows_in_runs.proofs.Search.{next_above}
use Rattle.rows_in_runs.proofs.run.Run.above.Goals as goal

pub returns-then-has_at : goal.returns-then-has_at
returns-then-has_at c =
    let r = c.args.self.now in
    let has = c.has_at.ensures c.if-has_at.true in
    next_above (keys_in r.bytes.items r.rows.items) c.args.key.now c.args.guess r.rising (omega (arith, has.0, length_keys r.bytes.items r.rows.items)) has.1

pub returns-then-has_at-2 : goal.returns-then-has_at-2
returns-then-has_at-2 c =
    let r = c.args.self.now in
    let has = c.has_at-2.ensures c.if-has_at-2.true in
    next_above (keys_in r.bytes.items r.rows.items) c.args.key.now c.saturating_add-next.result r.rising (omega (arith, has.0, length_keys r.bytes.items r.rows.items)) has.1
