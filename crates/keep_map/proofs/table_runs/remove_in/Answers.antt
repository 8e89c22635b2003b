use Rattle.keep_map.proofs.AllRuns.{others_after}
use Rattle.keep_map.proofs.table_runs.remove_in.Goals as goal

pub returns-in-Some-clause-others : goal.returns-in-Some-clause-others
returns-in-Some-clause-others c =
    let new = c.remove.new.self in
    others_after c.args.map.now (c.get_mut.follows.lender new) c.args.id.now c.in-Some.table.now new c.in-Some.ensures.value (c.get_mut.follows.holds new).3
