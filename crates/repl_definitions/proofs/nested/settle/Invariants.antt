use Rattle.std.proofs.Common.{◌≡◌, ◌++◌, length}
use Rattle.repl_definitions.specs.PendingTrees.{pending_nodes, owed}
use Rattle.repl_definitions.proofs.nested.settle.Given as goal

abbrev pub invariant-loop-node : goal.invariant-loop-node
invariant-loop-node g l = (pending_nodes g.T.Nested.nodes l.pending.items ++ g.T.Nested.nodes l.whole ≡ pending_nodes g.T.Nested.nodes l.fn.pending.items ++ g.T.Nested.nodes l.fn.tree) × (owed l.pending.items ≡ owed l.fn.pending.items)

abbrev pub decreases-loop-node : goal.decreases-loop-node
decreases-loop-node g l = length l.pending.items
