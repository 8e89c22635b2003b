use Rattle.std.proofs.Common.{◌∙◌, refl}
use Rattle.repl_definitions.proofs.Trees.{pending-joined, pending-left}
use Rattle.repl_definitions.proofs.nested.settle.Goals as goal

pub loop-node-preserved : goal.loop-node-preserved
loop-node-preserved g c =
    let step = pending-joined g.T.Nested.nodes c.pop.new.self.items c.loop-node.pending.items c.in-Some.node c.in-Some-left.left c.loop-node.whole c.in_ok-whole-in-Some-left.whole c.in-Some.ensures.items c.in-Some-left.is c.in_ok-whole-in-Some-left.ensures in
    (step.0 ∙ c.loop-node.invariant.0, step.1 ∙ c.loop-node.invariant.1)

pub returns-in-None-clause-waits : goal.returns-in-None-clause-waits
returns-in-None-clause-waits g c =
    let step = pending-left g.T.Nested.nodes c.pop.new.self.items c.loop-node.pending.items c.push.new.self.items c.in-Some.node (record { joint = c.in-Some.node.joint; left = _ }) c.loop-node.whole c.in-Some.ensures.items c.in-None.is c.in_ok-push-in-None.ensures.items refl refl in
    (step.0 ∙ c.loop-node.invariant.0, step.1 ∙ c.loop-node.invariant.1)
