use Rattle.std.proofs.Common.{◌≡◌, ◌+◌, drop}
use Rattle.std.specs.List.{position_from}
use Rattle.checked_defs.specs.Broken.{table_breaks}
use Rattle.checked_defs.proofs.find_break.first_table.Given as goal

abbrev pub invariant-tables : goal.invariant-tables
invariant-tables l =
    position_from (table_breaks l.raw l.context l.rule) (l.place + 1) (drop l.place l.table-items) ≡ position_from (table_breaks l.raw l.context l.rule) 1 l.table-items
