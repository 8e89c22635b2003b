use Rattle.std.proofs.Common.{◌≡◌, ◌∙◌, [], ◌∷◌, ◌++◌, ◌+◌, ap, sym, subst}
use Rattle.std.proofs.lemmas.Option.{MatchOption-at_none}
use Rattle.repl_definitions.specs.PendingTrees.{pending_nodes, owed}
use Rattle.repl_definitions.specs.Forests.{NodesFit}
use Rattle.repl_definitions.proofs.Trees.{pending_nodes-push, owed-push}
use Rattle.repl_definitions.proofs.Forests.{NodesFit-push, node_read, begins-single, begins-joined, shorter}
use Rattle.repl_definitions.proofs.nested.take_nested.Goals as goal

pub loop-pending-preserved-in-Continue-branch-2 : goal.loop-pending-preserved-in-Continue-branch-2
loop-pending-preserved-in-Continue-branch-2 g c =
    let N = g.T.Nested in
    let old = c.loop-pending.pending.items in
    let fresh = c.push.new.self.items in
    let node = c.in_ok-root.root in
    let read = c.in_ok-root.ensures.ok in
    let new : pending_nodes N.nodes fresh ≡ pending_nodes N.nodes old ++ node ∷ [] = ap (pending_nodes N.nodes) c.in_ok-push-in-Joined.ensures.items ∙ pending_nodes-push N.nodes old _ ∙ ap (λ n. pending_nodes N.nodes old ++ n ∷ []) (sym c.in-Joined.is) in
    let owes : owed fresh ≡ owed old + 1 = ap owed c.in_ok-push-in-Joined.ensures.items ∙ owed-push old _ in (
      node_read N.node_spelling (pending_nodes N.nodes old) (pending_nodes N.nodes fresh) node c.args.bytes.now c.loop-pending.left.now c.in_ok-root.rest.now new c.loop-pending.invariant.0 read.1,
      subst (NodesFit N.node_fits) (sym new) (NodesFit-push N.node_fits (pending_nodes N.nodes old) node c.loop-pending.invariant.1 read.0),
      λ tree rest fits same. let us = c.loop-pending.invariant.2 tree rest fits same in
          begins-joined N.node_fits N.node_spelling g.met.T.Nested.one_node (owed old) (owed fresh) node c.in-Joined.joint c.loop-pending.left.now c.in_ok-root.rest.now rest read.0 c.in-Joined.is read.1 owes us.0 us.1 us.2 us.3,
    )

pub loop-pending-smaller : goal.loop-pending-smaller
loop-pending-smaller g c = shorter (g.T.Nested.node_spelling c.in_ok-root.root) c.loop-pending.left.now c.in_ok-root.rest.now (g.met.T.Nested.filled c.in_ok-root.root) c.in_ok-root.ensures.ok.1

pub loop-pending-preserved : goal.loop-pending-preserved
loop-pending-preserved g c =
    let N = g.T.Nested in
    let old = c.loop-pending.pending.items in
    let fresh = c.settle.new.pending.items in
    let node = c.in_ok-root.root in
    let read = c.in_ok-root.ensures.ok in
    let waits = MatchOption-at_none _ _ c.in_default.is c.in_ok-tree-in-Single.ensures.waits in
    let new : pending_nodes N.nodes fresh ≡ pending_nodes N.nodes old ++ node ∷ [] = waits.0 ∙ ap (λ n. pending_nodes N.nodes old ++ n) (c.leaf.ensures ∙ ap (λ n. n ∷ []) (sym c.in-Single.is)) in (
      node_read N.node_spelling (pending_nodes N.nodes old) (pending_nodes N.nodes fresh) node c.args.bytes.now c.loop-pending.left.now c.in_ok-root.rest.now new c.loop-pending.invariant.0 read.1,
      subst (NodesFit N.node_fits) (sym new) (NodesFit-push N.node_fits (pending_nodes N.nodes old) node c.loop-pending.invariant.1 read.0),
      λ tree rest fits same. let us = c.loop-pending.invariant.2 tree rest fits same in
          begins-single N.node_fits N.node_spelling g.met.T.Nested.one_node (owed old) (owed fresh) node c.in-Single.leaf c.loop-pending.left.now c.in_ok-root.rest.now rest read.0 c.in-Single.is read.1 waits.1 us.0 us.1 us.2 us.3,
    )
