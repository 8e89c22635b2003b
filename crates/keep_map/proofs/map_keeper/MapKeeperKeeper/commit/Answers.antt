use Rattle.std.proofs.Common.{sym}
use Rattle.keep_map.specs.Keepers.{kept_of}
use Rattle.keep_map.proofs.Failures.{caused, commit_failed}
use Rattle.keep_map.proofs.map_keeper.MapKeeperKeeper.commit.Goals as goal

pub returns-then-call_fails-clause-err : goal.returns-then-call_fails-clause-err
returns-then-call_fails-clause-err c =
    let plan = c.call_fails.new.plan in
    commit_failed c.args.self.now.doubt_takes (kept_of c.args.self.now) (kept_of c.close.new.self) plan.faults c.close.ensures.kept
    (caused c.args.self.now.plan plan (sym c.if-call_fails.ensures.fails) c.call_fails.ensures.counted c.call_fails.ensures.later)
