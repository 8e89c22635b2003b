use Rattle.std.proofs.Common.{◌≡◌, map}
use Rattle.full_refresh.specs.Signals.{start_of}
use Rattle.full_refresh.proofs.signal_unit.starts.Given as goal

-- the changes so far are the starts of the names so far
abbrev pub invariant-loop-table : goal.invariant-loop-table
invariant-loop-table l = l.changes ≡ map start_of l.yielded
