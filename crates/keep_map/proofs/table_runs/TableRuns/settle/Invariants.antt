use Rattle.std.proofs.Common.{length}
use Rattle.keep_map.specs.Tables.{tables_of}
use Rattle.keep_map.proofs.AllRuns.{AreKept}
use Rattle.keep_map.proofs.table_runs.TableRuns.settle.Given as goal

abbrev pub invariant-loop-id : goal.invariant-loop-id
invariant-loop-id l = AreKept l.keep (tables_of l.fn.self.map) (tables_of l.self.map)

abbrev pub decreases-loop-id : goal.decreases-loop-id
decreases-loop-id l = length l.self.touched.items
