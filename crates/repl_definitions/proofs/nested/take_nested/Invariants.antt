use Rattle.std.proofs.Common.{◌≡◌, ℕ, suc, List, ◌++◌, length}
use Rattle.repl_definitions.specs.declared.nested.Root.{Root}
use Rattle.repl_definitions.specs.Forests.{IsForest, nodes_spelling, NodesFit}
use Rattle.repl_definitions.specs.PendingTrees.{pending_nodes, owed}
use Rattle.repl_definitions.proofs.nested.take_nested.Given as goal

-- the bytes are the nodes that are read and what is left; if the bytes begin with a tree, then what is
-- left begins with the tree that is being read and those that are owed
abbrev pub invariant-loop-pending : goal.invariant-loop-pending
invariant-loop-pending g l =
    (l.bytes ≡ nodes_spelling g.T.Nested.node_spelling (pending_nodes g.T.Nested.nodes l.pending.items) ++ l.left)
    × NodesFit g.T.Nested.node_fits (pending_nodes g.T.Nested.nodes l.pending.items)
    × ((tree : _) (rest : List ℕ) → NodesFit g.T.Nested.node_fits (g.T.Nested.nodes tree) → l.bytes ≡ nodes_spelling g.T.Nested.node_spelling (g.T.Nested.nodes tree) ++ rest
    → (us : List (Root g.row.T-Leaf.Denot g.row.T-Joint.Denot)) × IsForest (suc (owed l.pending.items)) us × NodesFit g.T.Nested.node_fits us × (l.left ≡ nodes_spelling g.T.Nested.node_spelling us ++ rest))

abbrev pub decreases-loop-pending : goal.decreases-loop-pending
decreases-loop-pending g l = length l.left
