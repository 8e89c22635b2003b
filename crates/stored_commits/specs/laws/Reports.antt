-- What the source of a set holds once a point is reported to it.
use Rattle.std.proofs.Common.{cond, map}
use Rattle.repl_model.specs.Words.{synchpoint, SourceSide, same_set, reports, after_action}
use Rattle.stored_commits.specs.actions.ActedServers.{ReportHolds, OthersHoldAfterReport}
use Rattle.stored_commits.specs.laws.Marks.{marked_holds}
use Rattle.stored_commits.specs.laws.ActedWorlds.{still_holds}

-- each server holds, as it is, what the world after a report calls for
pub others_hold_report : OthersHoldAfterReport
others_hold_report world k = still_holds (λ server. map (λ (side : SourceSide). cond (same_set k.at_source.def.id side.def.id) (record side { mark = synchpoint k.at_target.trail }) side) server.source_sets) (λ server. server.target_sets) k.source.name world

-- and so does the source of the set, once the mark is put
pub report_holds : ReportHolds
report_holds world k number held sound i is holds =
    marked_holds (λ side. synchpoint k.at_target.trail) (λ side. side.signal) world (after_action world k reports) k k.source.log number held sound i is (others_hold_report world k k.source held holds)
