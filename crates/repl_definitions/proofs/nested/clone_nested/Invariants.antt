use Rattle.std.proofs.Common.{◌≡◌, ◌++◌, ◌+◌, length}
use Rattle.repl_definitions.specs.PendingTrees.{pending_nodes, owed}
use Rattle.repl_definitions.proofs.Trees.{stacked}
use Rattle.repl_definitions.proofs.nested.clone_nested.Given as goal

-- what is copied, and what waits, are the tree, and each tree that is owed waits
abbrev pub invariant-loop-next : goal.invariant-loop-next
invariant-loop-next g l =
    (g.T.Nested.nodes l.tree ≡ pending_nodes g.T.Nested.nodes l.pending.items ++ stacked (λ tree. g.T.Nested.nodes tree.now) l.waiting.items)
    × (owed l.pending.items + 1 ≡ length l.waiting.items)

abbrev pub decreases-loop-next : goal.decreases-loop-next
decreases-loop-next g l = length (stacked (λ tree. g.T.Nested.nodes tree.now) l.waiting.items)
