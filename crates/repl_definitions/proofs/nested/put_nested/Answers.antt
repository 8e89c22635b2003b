use Rattle.std.proofs.Common.{[], length, ap, subst, arith, Bor}
use Rattle.std.proofs.lemmas.Option.{MatchOption-at_none, MatchOption-at_some}
use Rattle.repl_definitions.specs.Forests.{NodesFit}
use Rattle.repl_definitions.proofs.Trees.{stacked-top, stacked-below, writes-more}
use Rattle.repl_definitions.proofs.nested.put_nested.Goals as goal

pub put_root-requires : goal.put_root-requires
put_root-requires g c =
    let N = g.T.Nested in
    let first = g.met.T.Nested.first c.in-Some.next.now in
    let top = stacked-top (λ (tree : Bor g.row.T.Denot). N.nodes tree.now) c.loop-next.waiting.items c.pop.new.self.items c.in-Some.next (N.top c.in-Some.next.now) first.0 c.in-Some.ensures.items first.1 in
    (subst (NodesFit N.has_node_spelling) top c.loop-next.invariant.1).0

pub loop-next-smaller-in-Continue-branch-5 : goal.loop-next-smaller-in-Continue-branch-5
loop-next-smaller-in-Continue-branch-5 g c =
    let N = g.T.Nested in
    let below = MatchOption-at_some _ _ _ c.in-Some-2.is c.in_ok-left.ensures.below in
    let step = stacked-below (λ (tree : Bor g.row.T.Denot). N.nodes tree.now) c.loop-next.waiting.items c.pop.new.self.items c.push-in-Some-2.new.self.items c.push-in-Some-2-2.new.self.items c.in-Some.next c.in-Some-2.left c.in-Some-2.right (N.top c.in-Some.next.now) c.in-Some.ensures.items below c.in_ok-push-2.ensures.items c.in_ok-push-3.ensures.items in
    omega (arith, ap length step)

pub loop-next-preserved-in-Continue-branch-5 : goal.loop-next-preserved-in-Continue-branch-5
loop-next-preserved-in-Continue-branch-5 g c =
    let N = g.T.Nested in
    let below = MatchOption-at_some _ _ _ c.in-Some-2.is c.in_ok-left.ensures.below in
    let step = stacked-below (λ (tree : Bor g.row.T.Denot). N.nodes tree.now) c.loop-next.waiting.items c.pop.new.self.items c.push-in-Some-2.new.self.items c.push-in-Some-2-2.new.self.items c.in-Some.next c.in-Some-2.left c.in-Some-2.right (N.top c.in-Some.next.now) c.in-Some.ensures.items below c.in_ok-push-2.ensures.items c.in_ok-push-3.ensures.items in
    writes-more N.node_spelling N.has_node_spelling N.node_fits c.args.out.now.items c.loop-next.out.items c.put_root.new.out.items (N.nodes c.args.tree.now) _ _ (N.top c.in-Some.next.now) step c.in_ok-left.ensures.ok c.in_ok-left.ensures.fits c.loop-next.invariant

pub loop-next-smaller : goal.loop-next-smaller
loop-next-smaller g c =
    let N = g.T.Nested in
    let below = MatchOption-at_none _ _ c.in_default-2.is c.in_ok-left.ensures.below in
    let step = stacked-top (λ (tree : Bor g.row.T.Denot). N.nodes tree.now) c.loop-next.waiting.items c.pop.new.self.items c.in-Some.next (N.top c.in-Some.next.now) [] c.in-Some.ensures.items below in
    omega (arith, ap length step)

pub loop-next-preserved : goal.loop-next-preserved
loop-next-preserved g c =
    let N = g.T.Nested in
    let below = MatchOption-at_none _ _ c.in_default-2.is c.in_ok-left.ensures.below in
    let step = stacked-top (λ (tree : Bor g.row.T.Denot). N.nodes tree.now) c.loop-next.waiting.items c.pop.new.self.items c.in-Some.next (N.top c.in-Some.next.now) [] c.in-Some.ensures.items below in
    writes-more N.node_spelling N.has_node_spelling N.node_fits c.args.out.now.items c.loop-next.out.items c.put_root.new.out.items (N.nodes c.args.tree.now) _ _ (N.top c.in-Some.next.now) step c.in_ok-left.ensures.ok c.in_ok-left.ensures.fits c.loop-next.invariant
