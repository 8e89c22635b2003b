use Rattle.run_commands.proofs.FedRecords.{may_append}
use Rattle.run_commands.proofs.feed.laws.records_of_lines_may_be_appended.Goals as goal

pub returns : goal.returns
returns c = λ line r is. may_append r (c.one_text_of_a_record.ensures.found line r is).1
