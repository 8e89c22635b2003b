use Rattle.std.proofs.Common.{sym, subst}
use Rattle.keep_map.specs.Tables.{AreTouched}
use Rattle.keep_map.proofs.table_runs.TableRuns.get.Goals as goal

pub invariant_of-self : goal.invariant_of-self
invariant_of-self c = record { sound = subst (AreTouched c.args.self.now.touched.items) (sym c.get_in.ensures.same) c.args.self.now.sound }
