use Rattle.std.proofs.Common.{◌≡◌, fold, drop}
use Rattle.repl_model.specs.AfterActions.{source_tables as source_tables_lem}
use Rattle.full_refresh.specs.Signals.{with_table}
use Rattle.full_refresh.proofs.signal_unit.source_tables.Given as goal

-- the names so far, with those that the other members add, are all names
abbrev pub invariant-loop-member : goal.invariant-loop-member
invariant-loop-member l = fold (λ names member. with_table names member.source) l.names (drop l.member-index l.member-items) ≡ source_tables_lem l.def
