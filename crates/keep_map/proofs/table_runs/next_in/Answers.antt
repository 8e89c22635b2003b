use Rattle.keep_map.proofs.AllRuns.{same_after}
use Rattle.keep_map.proofs.table_runs.next_in.Goals as goal

pub returns-in-Some-clause-same : goal.returns-in-Some-clause-same
returns-in-Some-clause-same c =
    let new = c.next.new.self in
    same_after c.args.map.now (c.get_mut.follows.lender new) c.args.id.now c.in-Some.table.now new c.in-Some.ensures.value (c.get_mut.follows.holds new).3 c.next.ensures.same
