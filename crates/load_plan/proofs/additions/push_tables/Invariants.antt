use Rattle.std.proofs.Common.{◌≡◌, ◌++◌, drop}
use Rattle.load_plan.proofs.additions.push_tables.Given as goal

abbrev pub invariant-tables : goal.invariant-tables
invariant-tables l = l.rows ++ drop l.table-index l.tables ≡ l.initial.rows ++ l.tables
