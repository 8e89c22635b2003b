use Rattle.std.proofs.Common.{◌≡◌, ◌++◌, drop, filter_map}
use Rattle.repl_defs.specs.Entries.{target_name}
use Rattle.checked_defs.proofs.once.target_names.Given as goal

abbrev pub invariant-entries : goal.invariant-entries
invariant-entries l =
    l.names ++ filter_map (target_name) (drop l.entry-index l.entries) ≡ filter_map (target_name) l.entries
