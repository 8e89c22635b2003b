use Rattle.std.proofs.Common.{length}
use Rattle.repl_definitions.proofs.Trees.{stacked, Writes}
use Rattle.repl_definitions.proofs.nested.put_nested.Given as goal

abbrev pub invariant-loop-next : goal.invariant-loop-next
invariant-loop-next g l = Writes g.T.Nested.node_spelling g.T.Nested.has_node_spelling g.T.Nested.node_fits l.fn.out.items (g.T.Nested.nodes l.fn.tree) l.out.items (stacked (λ tree. g.T.Nested.nodes tree.now) l.waiting.items)

abbrev pub decreases-loop-next : goal.decreases-loop-next
decreases-loop-next g l = length (stacked (λ tree. g.T.Nested.nodes tree.now) l.waiting.items)
