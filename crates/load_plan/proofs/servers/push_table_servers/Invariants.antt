use Rattle.std.proofs.Common.{◌≡◌, ◌++◌, drop, map}
use Rattle.load_plan.proofs.servers.push_table_servers.Given as goal

abbrev pub invariant-tables : goal.invariant-tables
invariant-tables l = l.names ++ map (λ t. t.server) (drop l.table-index l.tables) ≡ l.initial.names ++ map (λ t. t.server) l.tables
