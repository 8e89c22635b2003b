use Rattle.std.proofs.Common.{refl, ap, arith, length, length-append, Bor}
use Rattle.std.proofs.lemmas.Option.{MatchOption-at_none, MatchOption-at_some}
use Rattle.repl_definitions.proofs.Trees.{stacked, stacked-top, stacked-below, copies-joined, copies-leaf}
use Rattle.repl_definitions.proofs.nested.clone_nested.Goals as goal

pub loop-next-preserved-in_ok-push-4 : goal.loop-next-preserved-in_ok-push-4
loop-next-preserved-in_ok-push-4 g c =
    let N = g.T.Nested in
    let below = MatchOption-at_some _ _ _ c.in-Some-branches.is c.branches.ensures in
    copies-joined N.nodes (λ (tree : Bor g.row.T.Denot). N.nodes tree.now) (N.nodes c.args.tree.now) c.loop-next.pending.items c.push-in-Some-branches-3.new.self.items (record { joint = c.in-Some-branches.joint; left = _ }) c.loop-next.waiting.items c.pop.new.self.items c.push-in-Some-branches.new.self.items c.push-in-Some-branches-2.new.self.items c.in-Some.next c.in-Some-branches.left c.in-Some-branches.right c.loop-next.invariant.0 c.loop-next.invariant.1 c.in-Some.ensures.items below c.in_ok-push-2.ensures.items c.in_ok-push-3.ensures.items c.in_ok-push-4.ensures.items refl

pub loop-next-preserved : goal.loop-next-preserved
loop-next-preserved g c =
    let N = g.T.Nested in
    let waits = MatchOption-at_none _ _ c.in_default-2.is c.in_ok-copy.ensures.waits in
    copies-leaf N.nodes (λ (tree : Bor g.row.T.Denot). N.nodes tree.now) (N.nodes c.args.tree.now) c.loop-next.pending.items c.settle.new.pending.items c.in_ok-copy_leaf.field-0 c.loop-next.waiting.items c.pop.new.self.items c.in-Some.next c.loop-next.invariant.0 c.loop-next.invariant.1 c.in-Some.ensures.items (ap N.nodes c.in_ok-copy_leaf.ensures) waits.0 waits.1

pub loop-next-smaller-in_ok-push-4 : goal.loop-next-smaller-in_ok-push-4
loop-next-smaller-in_ok-push-4 g c =
    let N = g.T.Nested in
    let below = MatchOption-at_some _ _ _ c.in-Some-branches.is c.branches.ensures in
    let step = stacked-below (λ (tree : Bor g.row.T.Denot). N.nodes tree.now) c.loop-next.waiting.items c.pop.new.self.items c.push-in-Some-branches.new.self.items c.push-in-Some-branches-2.new.self.items c.in-Some.next c.in-Some-branches.left c.in-Some-branches.right _ c.in-Some.ensures.items below c.in_ok-push-2.ensures.items c.in_ok-push-3.ensures.items in
    omega (arith, ap length step)

pub loop-next-smaller : goal.loop-next-smaller
loop-next-smaller g c =
    let N = g.T.Nested in
    let seen = λ (tree : Bor g.row.T.Denot). N.nodes tree.now in
    let first = g.met.T.Nested.first c.in-Some.next.now in
    let step = stacked-top seen c.loop-next.waiting.items c.pop.new.self.items c.in-Some.next (N.top c.in-Some.next.now) first.0 c.in-Some.ensures.items first.1 in
    omega (arith, ap length step, length-append first.0 (stacked seen c.pop.new.self.items))
