use Rattle.repl_model.specs.laws.LongerCopies.{selected_changes_join, interval_entries_join}
use Rattle.repl_model.proofs.longer_log.changes_in_two_halves.Goals as goal

pub returns-clause-selected : goal.returns-clause-selected
returns-clause-selected c = selected_changes_join

pub returns-clause-entries : goal.returns-clause-entries
returns-clause-entries c = interval_entries_join
