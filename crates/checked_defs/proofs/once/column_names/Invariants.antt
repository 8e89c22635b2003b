use Rattle.std.proofs.Common.{◌≡◌, ◌++◌, drop, filter_map}
use Rattle.repl_defs.specs.Entries.{column_name}
use Rattle.checked_defs.proofs.once.column_names.Given as goal

abbrev pub invariant-entries : goal.invariant-entries
invariant-entries l =
    l.names ++ filter_map (column_name) (drop l.entry-index l.entries) ≡ filter_map (column_name) l.entries
