use Rattle.std.proofs.Common.{length}
use Rattle.ps_multiplexers.proofs.Visited.{ends, popped-less, popped-none, popped-there, popped-visits}
use Rattle.ps_multiplexers.proofs.visits.Visits.run.Goals as goal

pub loop-node-init : goal.loop-node-init
loop-node-init c = (λ root v. v, c.requires.there)

pub take-requires-clause-there : goal.take-requires-clause-there
take-requires-clause-there c = (popped-there c.args.phys.now.slots c.loop-node.self.waiting.items c.pop.new.self.items c.in-Some.node c.in-Some.ensures.items c.loop-node.invariant.1).0

pub loop-node-preserved : goal.loop-node-preserved
loop-node-preserved c = (
  λ root v. c.in_ok-take.ensures.visiting root (popped-visits c.args.phys.now.slots root c.loop-node.self.pushed.slots c.loop-node.self.waiting.items c.pop.new.self.items c.loop-node.self.taken.items c.loop-node.self.read.items c.in-Some.node c.in-Some.ensures.items (c.loop-node.invariant.0 root v)),
  c.in_ok-take.ensures.waiting (popped-there c.args.phys.now.slots c.loop-node.self.waiting.items c.pop.new.self.items c.in-Some.node c.in-Some.ensures.items c.loop-node.invariant.1).1,
)

pub loop-node-smaller : goal.loop-node-smaller
loop-node-smaller c = popped-less (length c.args.phys.now.slots) c.loop-node.self.pushed.slots c.take.new.self.pushed.slots c.loop-node.self.waiting.items c.pop.new.self.items c.take.new.self.waiting.items c.in-Some.node c.in-Some.ensures.items c.in_ok-take.ensures.left

pub returns-clause-visited : goal.returns-clause-visited
returns-clause-visited c = λ root v.
    ends c.args.phys.now.slots root c.loop-node.self.pushed.slots c.loop-node.self.waiting.items c.loop-node.self.taken.items c.loop-node.self.read.items
    (popped-none _ c.loop-node.self.waiting.items c.pop.new.self.items c.in_default.ensures.cases.0 c.in_default.ensures.rest c.in_default.ensures.items) (c.loop-node.invariant.0 root v)
