use Rattle.std.proofs.Common.{◌≡◌, drop}
use Rattle.std.specs.List.{list_all}
use Rattle.checked_defs.specs.Rules.{is_target_entry}
use Rattle.checked_defs.proofs.members.texts_are_read.Given as goal

abbrev pub invariant-entries : goal.invariant-entries
invariant-entries l =
    list_all (is_target_entry l.columns) (drop l.entry-index l.entries) ≡ list_all (is_target_entry l.columns) l.entries
