use Rattle.std.proofs.Common.{sym, ◌∙◌}
use Rattle.keep_map.proofs.RunChanges.{tidied}
use Rattle.keep_map.proofs.table_run.TableRun.touch.Goals as goal

pub returns-in_ok-push-clause-rows : goal.returns-in_ok-push-clause-rows
returns-in_ok-push-clause-rows c =
    tidied c.args.self.now.run c.tidy.new.self c.args.self.now.has_more (sym c.is_settled.ensures ∙ c.if-is_settled.true) c.tidy.ensures.settled c.tidy.ensures.rows
