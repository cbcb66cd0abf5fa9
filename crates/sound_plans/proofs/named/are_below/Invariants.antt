use Rattle.sound_plans.proofs.Naming.{NodesAreLeft}
use Rattle.sound_plans.proofs.named.are_below.Given as goal

abbrev pub invariant-loop-node : goal.invariant-loop-node
invariant-loop-node l = NodesAreLeft l.number l.nodes l.node-index
