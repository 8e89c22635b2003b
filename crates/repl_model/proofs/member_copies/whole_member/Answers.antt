use Rattle.repl_model.specs.laws.WholeMembers.{copies_source, whole_row, copies_whole}
use Rattle.repl_model.proofs.member_copies.whole_member.Goals as goal

pub returns-clause-copy : goal.returns-clause-copy
returns-clause-copy c = copies_source

pub returns-clause-row : goal.returns-clause-row
returns-clause-row c = whole_row

pub returns-clause-whole : goal.returns-clause-whole
returns-clause-whole c = copies_whole
